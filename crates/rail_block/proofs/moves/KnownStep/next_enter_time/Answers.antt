use Rattle.std.proofs.Common.{◌≡◌, ◌+◌, ◌-◌, ◌≤◌, sym, ◌∙◌, arith}
use Rattle.rail_rules.specs.Times.{start_loss}
use Rattle.rail_block.proofs.Placing.{enter-at, head_time-next}
use Rattle.rail_block.proofs.moves.KnownStep.next_enter_time.Goals as goal
use Rattle.rail_block.proofs.moves.KnownStep.next_enter_time.Goals.{then-self-eq1, else-self-eq1}

pub returns-clause-time : goal.returns-clause-time
returns-clause-time c = λ adms h was.
    let plant = c.args.self.now.of.now.plant.now in
    let t = c.args.self.now.of.now.train in
    let p = c.args.self.now.of.now.place in
    let some = c.args.self.now.of.now.first in
    let m = p - 1 in
    let times = c.args.times.now in
    let lost = c.if-self-eq1.lost in
    let at_first : c.args.self.now.step ≡ 1 → lost ≡ start_loss plant t times.passes =
    λ one. elim c.if-self-eq1.branch [ then-self-eq1 w ↦ w.lost-is ∙ w.start_loss-lost.ensures.loss | else-self-eq1 w ↦ absurd (w.if-self-eq1.false one) ] in
    let later : 2 ≤ c.args.self.now.step → lost ≡ 0 =
    λ two. elim c.if-self-eq1.branch [ then-self-eq1 w ↦ absurd (omega (arith, w.if-self-eq1.true, two)) | else-self-eq1 w ↦ w.lost-is ] in
    let entered = was ∙ sym (enter-at plant t adms p times (c.args.self.now.step - 1) some h) in
    let sum = head_time-next plant t m times.go times.passes c.args.self.now.step c.args.entered lost c.run_time.result c.args.self.now.first entered c.run_time.ensures.time at_first later in
    let same : c.after.result ≡ c.args.entered + lost + c.run_time.result = omega (arith, c.after.ensures) in
    same ∙ sum ∙ enter-at plant t adms p times c.args.self.now.step some h
