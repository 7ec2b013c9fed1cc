use Rattle.std.proofs.Common.{◌≡◌, suc, ◌+◌, ◌-◌, sym, ap, ◌∙◌}
use Rattle.rail_rules.specs.Plant.{moves, steps}
use Rattle.rail_rules.specs.Times.{arrive}
use Rattle.rail_block.specs.declared.moves.KnownMove.{KnownMove}
use Rattle.rail_block.specs.declared.times.MoveTimes.{MoveTimes}
use Rattle.rail_block.specs.Steps.{step_clearing}
use Rattle.rail_block.proofs.Placing.{before, made_at}
use Rattle.rail_block.proofs.Ending.{arrive-end}
use Rattle.rail_block.proofs.moves.KnownMove.out_time.Goals as goal

pub returns-clause-time : goal.returns-clause-time
returns-clause-time c = λ whole adms is.
    let plant = c.args.self.now.plant.now in
    let t = c.args.self.now.train in
    let p = c.args.self.now.place in
    let some = c.args.self.now.first in
    let m = p - 1 in
    let last : suc m ≡ moves plant t = sym (before p some) ∙ whole in
    let arrives : c.args.times.now.free_run ≡ arrive plant t adms m = ap (λ (own : MoveTimes). own.free_run) (made_at plant t adms p c.args.times.now some is) ∙ arrive-end plant t adms m last in
    let cleared : c.clear_time.result ≡ step_clearing plant t m (steps plant t m - 1) =
    c.clear_time.ensures.time
    ∙ ap (λ (own : KnownMove). step_clearing own.plant.now own.train (own.place - 1) (c.new-last.result.step - 1)) c.new-last.ensures.of
    ∙ ap (λ j. step_clearing plant t m (j - 1)) (c.new-last.ensures.step ∙ c.steps.ensures.steps) in
    c.after.ensures ∙ (λ k. arrives k + cleared k)
