use Rattle.std.proofs.Common.{◌≡◌, suc, ◌-◌, true, false, sym, ap, ◌∙◌, arith}
use Rattle.std.specs.Option.{option_copied}
use Rattle.rail_rules.specs.Plant.{moves}
use Rattle.rail_rules.specs.Times.{passes}
use Rattle.rail_block.specs.declared.times.MoveTimes.{MoveTimes}
use Rattle.rail_block.specs.CarriedTimes.{times_at}
use Rattle.rail_block.proofs.Placing.{before, made_at}
use Rattle.rail_block.proofs.Ending.{next-some, next-none, unadmitted, arrive-end, arrive-passing, arrive-stopping}
use Rattle.rail_block.proofs.moves.KnownMove.arrive_time.Goals as goal

pub returns-then-self-last_place-clause-time : goal.returns-then-self-last_place-clause-time
returns-then-self-last_place-clause-time c = λ adms h.
    let last : suc (c.args.self.now.place - 1) ≡ moves c.args.self.now.plant.now c.args.self.now.train = omega (arith, c.args.self.now.first, c.if-self-last_place.true, c.last_place.ensures) in
    ap (λ (own : MoveTimes). own.free_run) (made_at c.args.self.now.plant.now c.args.self.now.train adms c.args.self.now.place c.args.times.now c.args.self.now.first h.times)
    ∙ arrive-end c.args.self.now.plant.now c.args.self.now.train adms (c.args.self.now.place - 1) last

pub returns-then-next-clause-time : goal.returns-then-next-clause-time
returns-then-next-clause-time c = λ adms h.
    let plant = c.args.self.now.plant.now in
    let t = c.args.self.now.train in
    let p = c.args.self.now.place in
    let some = c.args.self.now.first in
    let m = p - 1 in
    let not_last : suc m ≡ moves plant t → ⊥ = λ e. c.if-self-last_place.false (before p some ∙ e ∙ sym c.last_place.ensures) in
    let there = next-some plant t adms p c.in-Some.next.now (sym (ap option_copied c.in-Some.is) ∙ h.next) in
    let own = there.1 ∙ ap (λ i. times_at plant t adms (suc i)) (before p some) in
    let does_pass : passes plant t adms (suc m) ≡ true = sym (ap (λ (n : MoveTimes). n.passes) own) ∙ c.if-next.true in
    ap (λ (n : MoveTimes). n.go) own ∙ arrive-passing plant t adms m not_last does_pass

pub returns-then-next-clause-below : goal.returns-then-next-clause-below
returns-then-next-clause-below c = omega (arith, (c.requires.next c.in-Some.next.now (ap option_copied c.in-Some.is)).go)

pub returns-else-next-clause-time : goal.returns-else-next-clause-time
returns-else-next-clause-time c = λ adms h.
    let plant = c.args.self.now.plant.now in
    let t = c.args.self.now.train in
    let p = c.args.self.now.place in
    let some = c.args.self.now.first in
    let m = p - 1 in
    let not_last : suc m ≡ moves plant t → ⊥ = λ e. c.if-self-last_place.false (before p some ∙ e ∙ sym c.last_place.ensures) in
    let there = next-some plant t adms p c.in-Some.next.now (sym (ap option_copied c.in-Some.is) ∙ h.next) in
    let own = there.1 ∙ ap (λ i. times_at plant t adms (suc i)) (before p some) in
    let stops : passes plant t adms (suc m) ≡ false = sym (ap (λ (n : MoveTimes). n.passes) own) ∙ c.if-next.false in
    c.stop_at.ensures.time adms h.times ∙ arrive-stopping plant t adms m not_last stops

pub returns-in-None-clause-time : goal.returns-in-None-clause-time
returns-in-None-clause-time c = λ adms h.
    let plant = c.args.self.now.plant.now in
    let t = c.args.self.now.train in
    let p = c.args.self.now.place in
    let some = c.args.self.now.first in
    let m = p - 1 in
    let not_last : suc m ≡ moves plant t → ⊥ = λ e. c.if-self-last_place.false (before p some ∙ e ∙ sym c.last_place.ensures) in
    let none = next-none plant t adms p (sym (ap option_copied c.in-None.is) ∙ h.next) in
    let stops : passes plant t adms (suc m) ≡ false = ap (passes plant t adms) (sym (before p some)) ∙ unadmitted plant t adms p none in
    c.stop_at-in-None.ensures.time adms h.times ∙ arrive-stopping plant t adms m not_last stops
