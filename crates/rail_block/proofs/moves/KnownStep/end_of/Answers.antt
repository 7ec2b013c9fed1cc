use Rattle.std.proofs.Common.{◌≡◌, suc, ◌+◌, ◌-◌, true, false, sym, ap, ◌∙◌, arith}
use Rattle.std.specs.Option.{option_copied}
use Rattle.rail_rules.specs.Times.{is_admitted}
use Rattle.rail_block.specs.CarriedTimes.{times_at}
use Rattle.rail_block.proofs.Placing.{before}
use Rattle.rail_block.proofs.Ending.{next-some, next-none, openness, open-end, closed-end, left-closed}
use Rattle.rail_block.proofs.moves.KnownStep.end_of.Goals as goal

pub end_when_stood-requires : goal.end_when_stood-requires
end_when_stood-requires c = c.requires.next c.in-Some.next.now (ap option_copied c.in-Some.is)

pub returns-in-Some : goal.returns-in-Some
returns-in-Some c = λ adms h.
    let plant = c.args.self.now.of.now.plant.now in
    let t = c.args.self.now.of.now.train in
    let p = c.args.self.now.of.now.place in
    let some = c.args.self.now.of.now.first in
    let m = p - 1 in
    let j = c.args.self.now.step - 1 in
    let stands = sym c.does_stand.ensures ∙ c.if-does_stand.true in
    let there = next-some plant t adms p c.in-Some.next.now (sym (ap option_copied c.in-Some.is) ∙ h.next) in
    let one_more : suc p ≡ p + 1 = omega arith in
    let own = there.1 ∙ ap (times_at plant t adms) one_more in
    let after : is_admitted adms (suc m) ≡ true = ap (is_admitted adms) (sym (before p some)) ∙ there.0 in
    closed-end plant t adms m j c.end_when_stood.result (openness plant t adms m j true true stands after) (c.end_when_stood.ensures stands adms own)

pub returns-in-None : goal.returns-in-None
returns-in-None c = λ adms h.
    let plant = c.args.self.now.of.now.plant.now in
    let t = c.args.self.now.of.now.train in
    let p = c.args.self.now.of.now.place in
    let some = c.args.self.now.of.now.first in
    let m = p - 1 in
    let j = c.args.self.now.step - 1 in
    let stands = sym c.does_stand.ensures ∙ c.if-does_stand.true in
    let none = next-none plant t adms p (sym (ap option_copied c.in-None.is) ∙ h.next) in
    let after : is_admitted adms (suc m) ≡ false = ap (is_admitted adms) (sym (before p some)) ∙ none in
    open-end plant t adms m j (openness plant t adms m j true false stands after)

pub returns : goal.returns
returns c = λ adms h.
    let plant = c.args.self.now.of.now.plant.now in
    let t = c.args.self.now.of.now.train in
    let m = c.args.self.now.of.now.place - 1 in
    let j = c.args.self.now.step - 1 in
    let leaves = sym c.does_stand.ensures ∙ c.if-does_stand.false in
    closed-end plant t adms m j c.end_when_left.result (left-closed plant t adms m j leaves) (c.end_when_left.ensures leaves adms (c.leave_time-left.ensures.time adms h))
