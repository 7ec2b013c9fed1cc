use Rattle.std.proofs.Common.{◌≡◌, suc, ◌+◌, ◌-◌, true, false, Some, sym, ap, ◌∙◌}
use Rattle.std.specs.Option.{option_copied}
use Rattle.rail_rules.specs.Intervals.{is_open, standing_part}
use Rattle.rail_rules.specs.Times.{is_admitted, start_loss}
use Rattle.rail_block.specs.declared.times.MoveTimes.{MoveTimes}
use Rattle.rail_block.specs.CarriedTimes.{times_at}
use Rattle.rail_block.proofs.Placing.{before}
use Rattle.rail_block.proofs.Ending.{next-some, next-none, openness, clears-stood}
use Rattle.rail_block.proofs.Parting.{undecided-part, decided-part, standing-stood}
use Rattle.rail_block.proofs.moves.KnownStep.standing_part.Goals as goal

pub cleared_from-requires-clause-next : goal.cleared_from-requires-clause-next
cleared_from-requires-clause-next c = c.requires.next c.in-Some.next.now (ap option_copied c.in-Some.is)

pub returns-in-Some : goal.returns-in-Some
returns-in-Some c = λ adms h.
    let plant = c.args.self.now.of.now.plant.now in
    let t = c.args.self.now.of.now.train in
    let p = c.args.self.now.of.now.place in
    let some = c.args.self.now.of.now.first in
    let m = p - 1 in
    let j = c.args.self.now.step - 1 in
    let stands = sym c.does_stand.ensures ∙ c.if-not-does_stand.false in
    let there = next-some plant t adms p c.in-Some.next.now (sym (ap option_copied c.in-Some.is) ∙ h.next) in
    let own = there.1 ∙ ap (λ i. times_at plant t adms (suc i)) (before p some) in
    let after : is_admitted adms (suc m) ≡ true = ap (is_admitted adms) (sym (before p some)) ∙ there.0 in
    let cleared = c.cleared_from.ensures.time ∙ ap (λ (n : MoveTimes). n.go + start_loss plant t n.passes) own ∙ clears-stood plant t adms m j stands in
    let left = c.leave_time-left.ensures.time adms h in
    decided-part (is_open plant t adms m j) c.between.result (standing_part plant t adms m j) (openness plant t adms m j true true stands after)
    (c.between.ensures ∙ (λ k. cleared k - left k) ∙ standing-stood plant t adms m j stands)

pub returns-in-None : goal.returns-in-None
returns-in-None c = λ adms h.
    let plant = c.args.self.now.of.now.plant.now in
    let t = c.args.self.now.of.now.train in
    let p = c.args.self.now.of.now.place in
    let some = c.args.self.now.of.now.first in
    let m = p - 1 in
    let j = c.args.self.now.step - 1 in
    let stands = sym c.does_stand.ensures ∙ c.if-not-does_stand.false in
    let none = next-none plant t adms p (sym (ap option_copied c.in-None.is) ∙ h.next) in
    let after : is_admitted adms (suc m) ≡ false = ap (is_admitted adms) (sym (before p some)) ∙ none in
    undecided-part (is_open plant t adms m j) (Some (standing_part plant t adms m j)) (openness plant t adms m j true false stands after)
