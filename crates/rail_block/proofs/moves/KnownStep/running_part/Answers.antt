use Rattle.std.proofs.Common.{◌-◌, Some, sym, ◌∙◌}
use Rattle.rail_rules.specs.Intervals.{is_undecided}
use Rattle.rail_rules.specs.Times.{enter, leave}
use Rattle.rail_block.proofs.Parting.{admitted-is, undecided, undecided-part, decided-part}
use Rattle.rail_block.proofs.moves.KnownStep.running_part.Goals as goal

pub returns-then-is_undecided : goal.returns-then-is_undecided
returns-then-is_undecided c = λ adms h.
    let plant = c.args.self.now.of.now.plant.now in
    let t = c.args.self.now.of.now.train in
    let p = c.args.self.now.of.now.place in
    let some = c.args.self.now.of.now.first in
    let m = p - 1 in
    let j = c.args.self.now.step - 1 in
    let test = undecided plant t adms p c.args.self.now.step c.is_some.result some c.args.self.now.first (c.is_some.ensures ∙ admitted-is plant t adms p c.args.next h.next) in
    undecided-part (is_undecided plant t adms m j) (Some (leave plant t adms m j - enter plant t adms m j)) (sym test ∙ sym c.is_undecided.ensures ∙ c.if-is_undecided.true)

pub returns : goal.returns
returns c = λ adms h.
    let plant = c.args.self.now.of.now.plant.now in
    let t = c.args.self.now.of.now.train in
    let p = c.args.self.now.of.now.place in
    let some = c.args.self.now.of.now.first in
    let m = p - 1 in
    let j = c.args.self.now.step - 1 in
    let test = undecided plant t adms p c.args.self.now.step c.is_some.result some c.args.self.now.first (c.is_some.ensures ∙ admitted-is plant t adms p c.args.next h.next) in
    let entered = c.reach_time-entered.ensures.time adms h.times in
    let left = c.leave_time-left.ensures.time adms h in
    decided-part (is_undecided plant t adms m j) c.between.result (leave plant t adms m j - enter plant t adms m j) (sym test ∙ sym c.is_undecided.ensures ∙ c.if-is_undecided.false) (c.between.ensures ∙ (λ k. left k - entered k))
