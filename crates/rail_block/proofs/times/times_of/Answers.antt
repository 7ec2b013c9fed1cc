use Rattle.std.proofs.Common.{◌≡◌, ℕ, suc, ◌-◌, ◌<◌, true, not, ◌&&◌, eqb, sym, ap, ◌∙◌, arith}
use Rattle.rail_rules.specs.Plant.{moves, steps, is_forced}
use Rattle.rail_rules.specs.Times.{previous, free_run, ready_time, start_time, head_time}
use Rattle.rail_block.specs.declared.moves.KnownMove.{KnownMove}
use Rattle.rail_block.specs.declared.times.MoveTimes.{MoveTimes}
use Rattle.rail_block.specs.CarriedTimes.{ready_after}
use Rattle.rail_block.proofs.Carrying.{moved, free_run-at, next_ready-at, times-last, computed}
use Rattle.rail_block.proofs.Placing.{of-same}
use Rattle.rail_block.proofs.times.times_of.Goals as goal

pub returns-clause-times : goal.returns-clause-times
returns-clause-times c = λ adms long h.
    let plant = c.args.plant.now in
    let t = c.args.train in
    let p = c.args.place in
    let at = c.args.admitted in
    let m : ℕ = p - 1 in
    let before : MoveTimes = c.args.before.now in
    let own : KnownMove = c.new-known.result in
    let made = c.new-known.ensures in
    let goes = c.start_time-go.result in
    let passing = c.does_pass-passes.result in
    let within : m < moves plant t = omega (arith, c.requires.first, c.requires.last) in
    let is : p ≡ suc m = omega (arith, c.requires.first) in
    let run : before.free_run ≡ free_run plant t adms m = ap (λ (times : MoveTimes). times.free_run) h ∙ free_run-at plant t adms m in
    let ready : before.next_ready ≡ ready_time plant t m (previous adms m) before.free_run =
    ap (λ (times : MoveTimes). times.next_ready) h ∙ next_ready-at plant t adms m within ∙ ap (ready_time plant t m (previous adms m)) (sym run) in
    let passes = c.does_pass-passes.ensures ∙ ap (λ i. not i && eqb at before.next_ready) (of-same is_forced own plant t p made.plant made.train made.place) in
    let begins = c.start_time-go.ensures.time ∙ of-same (λ plant t m. start_time plant t m before.free_run at passing) own plant t p made.plant made.train made.place in
    let head = c.head_time-free_run.ensures.time ∙ of-same (λ plant t m. head_time plant t m goes passing c.steps.result) own plant t p made.plant made.train made.place
    ∙ ap (head_time plant t m goes passing) (c.steps.ensures.steps ∙ of-same steps own plant t p made.plant made.train made.place) in
    let next = c.next_ready.ensures.time ∙ of-same (λ plant t m. ready_after plant t m at c.head_time-free_run.result) own plant t p made.plant made.train made.place in
    computed plant t m at (previous adms m) before passing goes c.head_time-free_run.result c.next_ready.result ready passes begins head next
    ∙ ap (moved plant t m true (previous adms m) at) run
    ∙ sym (times-last plant t adms at p m is long)
