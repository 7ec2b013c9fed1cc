use Rattle.std.proofs.Common.{◌≡◌, ℕ, ◌+◌, ◌<◌, ◌&&◌, Bool, not, List, ◌∷◌, None, drop, get_or, length, count_by, sym, ap, subst, ◌∙◌, arith}
use Rattle.std.specs.List.{filter}
use Rattle.std.proofs.lemmas.List.{drop_all}
use Rattle.rail_queue.specs.declared.event.Event.{Event}
use Rattle.rail_rules.specs.Numbers.{is_in}
use Rattle.rail_laws_step.specs.HolderTables.{is_train}
use Rattle.rail_state.specs.Events.{AreFreedOnce, is_free_of}
use Rattle.rail_state.proofs.FreeEvents.{forget_step, once_first, once_rest}
use Rattle.rail_state.proofs.GivenMoves.{first_of_rest}
use Rattle.rail_state.proofs.admission.forget_each.Goals as goal

-- the sections that are left, of which this is the first
left : (taken : ℕ → Bool) (xs : List ℕ) (i x : ℕ) (es : List Event) → i < length xs → x ≡ get_or xs i x → AreFreedOnce (filter taken (drop i xs)) es → AreFreedOnce (filter taken (x ∷ drop (i + 1) xs)) es
left taken xs i x es lt is = subst (λ ys. AreFreedOnce (filter taken ys) es) (first_of_rest xs i x lt is)

pub forget_if_taken-requires-clause-single : goal.forget_if_taken-requires-clause-single
forget_if_taken-requires-clause-single c =
    let xs = c.args.sections.now in
    let i = c.loop-section.section-index in
    let x = c.section-item.result in
    let es = c.loop-section.queue.events in
    let taken : ℕ → Bool = λ y. is_in y c.args.claimed.now && is_train c.args.train (get_or c.args.holders.now y None) in
    once_first taken x (drop (i + 1) xs) es (left taken xs i x es c.loop-section-test.true c.section-item.is c.loop-section.invariant.single)

pub loop-section-preserved : goal.loop-section-preserved
loop-section-preserved c = record {
  counted = λ q.
      let xs = c.args.sections.now in
      let i = c.loop-section.section-index in
      let x = c.section-item.result in
      let es = c.loop-section.queue.events in
      let taken : ℕ → Bool = λ y. is_in y c.args.claimed.now && is_train c.args.train (get_or c.args.holders.now y None) in
      forget_step taken x (drop (i + 1) xs) es c.forget_if_taken.new.queue.events c.forget_if_taken.ensures.counted q
      ∙ ap (λ ys. count_by (λ e. not (is_free_of (filter taken ys) e) && q e) es) (sym (first_of_rest xs i x c.loop-section-test.true c.section-item.is))
      ∙ c.loop-section.invariant.counted q;
  single =
      let xs = c.args.sections.now in
      let i = c.loop-section.section-index in
      let x = c.section-item.result in
      let es = c.loop-section.queue.events in
      let taken : ℕ → Bool = λ y. is_in y c.args.claimed.now && is_train c.args.train (get_or c.args.holders.now y None) in
      once_rest taken x (drop (i + 1) xs) es c.forget_if_taken.new.queue.events (left taken xs i x es c.loop-section-test.true c.section-item.is c.loop-section.invariant.single) c.forget_if_taken.ensures.counted;
  room = omega (arith, c.loop-section.invariant.room, c.forget_if_taken.ensures.room);
}

pub returns-clause-counted : goal.returns-clause-counted
returns-clause-counted c = λ q.
    let taken : ℕ → Bool = λ y. is_in y c.args.claimed.now && is_train c.args.train (get_or c.args.holders.now y None) in
    ap (λ ys. count_by (λ e. not (is_free_of (filter taken ys) e) && q e) c.loop-section.queue.events) (sym (drop_all c.loop-section.section-index c.args.sections.now (omega (arith, c.loop-section-test.false))))
    ∙ c.loop-section.invariant.counted q
