use Rattle.std.proofs.Common.{◌≡◌, suc, ◌+◌, ◌-◌, ap, sym, ◌∙◌, arith}
use Rattle.rail_rules.specs.Plant.{step_section}
use Rattle.rail_rules.specs.Times.{clearing, start_loss}
use Rattle.rail_block.specs.declared.times.MoveTimes.{MoveTimes}
use Rattle.rail_block.specs.CarriedTimes.{times_at}
use Rattle.rail_rules.proofs.CallerLemmas.{end_needed}
use Rattle.rail_block.proofs.Ending.{clears-stood}
use Rattle.rail_block.proofs.moves.KnownStep.end_when_stood.Goals as goal

pub returns : goal.returns
returns c = λ yes adms is.
    let plant = c.args.self.now.of.now.plant.now in
    let t = c.args.self.now.of.now.train in
    let p = c.args.self.now.of.now.place in
    let some = c.args.self.now.of.now.first in
    let m = p - 1 in
    let j = c.args.self.now.step - 1 in
    let after : p + 1 ≡ suc (suc m) = omega (arith, some) in
    let own = is ∙ ap (times_at plant t adms) after in
    c.end_from.ensures
    ∙ ap (λ from. from + clearing plant t (step_section plant t m j) + plant.tables.release)
    (c.cleared_from.ensures.time ∙ ap (λ (n : MoveTimes). n.go + start_loss plant t n.passes) own ∙ clears-stood plant t adms m j yes)
    ∙ sym (end_needed plant t adms m j (omega (arith, c.args.self.now.first, c.args.self.now.last)))
