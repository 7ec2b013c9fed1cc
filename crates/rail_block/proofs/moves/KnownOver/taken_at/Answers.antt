use Rattle.std.proofs.Common.{◌≡◌, suc, ◌-◌, true, length, sym, ap, ◌∙◌, arith}
use Rattle.std.specs.Option.{option_copied}
use Rattle.std.proofs.lemmas.Bool.{false≢true, ltb-true, lt-ltb}
use Rattle.rail_rules.specs.Numbers.{is_in}
use Rattle.rail_rules.specs.Plant.{claimed, step_section}
use Rattle.rail_rules.specs.Times.{admitted, is_admitted}
use Rattle.rail_block.specs.declared.times.MoveTimes.{MoveTimes}
use Rattle.rail_block.proofs.Placing.{before}
use Rattle.rail_block.proofs.Ending.{next-some, next-none}
use Rattle.rail_block.proofs.Taken.{is_before, taken_some, taken_none}
use Rattle.rail_block.proofs.moves.KnownOver.taken_at.Goals as goal
use Rattle.rail_block.proofs.moves.KnownOver.taken_at.Goals.{else-lt-via-then-lt+else-is_claimed_next, else-lt-via-else-lt}

pub returns-then-is_claimed_next : goal.returns-then-is_claimed_next
returns-then-is_claimed_next c = λ adms times h timed.
    let own = c.args.self.now in
    let plant = own.of.now.plant.now in
    let t = own.of.now.train in
    let p = own.of.now.place in
    let m = p - 1 in
    let j = own.step - 1 in
    let at : suc m ≡ p = sym (before p own.of.now.first) in
    let there = next-some plant t adms p c.in-Some.next.now (sym (ap option_copied c.in-Some.is) ∙ h.next) in
    let adm : c.in-Some.next.now.admitted ≡ admitted adms (suc m) = ap (λ (n : MoveTimes). n.admitted) there.1 ∙ ap (admitted adms) (sym at) in
    let admitted_next : is_admitted adms (suc m) ≡ true = ap (is_admitted adms) at ∙ there.0 in
    taken_some plant t adms m j c.in-Some.next.now.admitted adm (record {
      over = omega (arith, own.behind);
      more = ltb-true (suc m) (length adms) admitted_next;
      claiming = ap (λ k. is_in (step_section plant t m j) (claimed plant t k)) at ∙ sym c.is_claimed_next.ensures ∙ c.if-is_claimed_next.true;
      before = omega (arith, adm, timed, ltb-true c.in-Some.next.now.admitted c.args.timer (sym (is_before c.in-Some.next.now.admitted c.args.timer) ∙ sym c.lt.ensures ∙ c.if-lt.true));
    })

pub returns-else-lt : goal.returns-else-lt
returns-else-lt c = λ adms times h timed.
    let own = c.args.self.now in
    let plant = own.of.now.plant.now in
    let t = own.of.now.train in
    let p = own.of.now.place in
    let m = p - 1 in
    let j = own.step - 1 in
    let at : suc m ≡ p = sym (before p own.of.now.first) in
    let there = next-some plant t adms p c.in-Some.next.now (sym (ap option_copied c.in-Some.is) ∙ h.next) in
    let adm : c.in-Some.next.now.admitted ≡ admitted adms (suc m) = ap (λ (n : MoveTimes). n.admitted) there.1 ∙ ap (admitted adms) (sym at) in
    taken_none plant t adms m j (λ taken.
    elim c.else-lt.branch [
      | else-lt-via-then-lt+else-is_claimed_next w ↦
          absurd (false≢true (sym w.if-is_claimed_next.false ∙ w.is_claimed_next.ensures ∙ ap (λ k. is_in (step_section plant t m j) (claimed plant t k)) (sym at) ∙ taken.claiming))
      | else-lt-via-else-lt w ↦ absurd (false≢true (sym w.if-lt.false ∙ c.lt.ensures ∙ is_before c.in-Some.next.now.admitted c.args.timer ∙ lt-ltb c.in-Some.next.now.admitted c.args.timer (omega (arith, adm, timed, taken.before))))
    ])

pub returns-in-None : goal.returns-in-None
returns-in-None c = λ adms times h timed.
    let own = c.args.self.now in
    let plant = own.of.now.plant.now in
    let t = own.of.now.train in
    let p = own.of.now.place in
    let m = p - 1 in
    let at : suc m ≡ p = sym (before p own.of.now.first) in
    let none = next-none plant t adms p (sym (ap option_copied c.in-None.is) ∙ h.next) in
    taken_none plant t adms m (own.step - 1) (λ taken. absurd (false≢true (sym none ∙ ap (is_admitted adms) (sym at) ∙ lt-ltb (suc m) (length adms) taken.more)))
