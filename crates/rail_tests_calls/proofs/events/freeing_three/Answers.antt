use Rattle.std.proofs.Common.{◌≡◌, ℕ, ◌+◌, ◌≤◌, ◌≢◌, ◌&&◌, cond, eqb, [], ◌∷◌, count_by, ap, ⊎_elim, arith}
use Rattle.std.proofs.lemmas.Bool.{cases_Bool, cases_eq, cond-true, cond-false, ne_eqb}
use Rattle.std.proofs.lemmas.List.Sums.{sum_by-cons}
use Rattle.rail_queue.specs.Order.{class_number, is_of}
use Rattle.rail_queue.specs.Queue.{Queue}
use Rattle.rail_queue.specs.declared.event.Class.TheVariants.{Free}
use Rattle.rail_queue.specs.declared.event.Event.{Event}
use Rattle.rail_tests_calls.proofs.events.freeing_three.Goals as goal

-- how often the event of a section gives another one free
one : ℕ → ℕ → ℕ
one k s = cond (eqb k s) 1 0

few : (k s : ℕ) → one k s ≤ 1
unfolding one
few k s = ⊎_elim (λ is. omega (arith, cond-true {A = ℕ} (eqb k s) 1 0 is)) (λ isnt. omega (arith, cond-false {A = ℕ} (eqb k s) 1 0 isnt)) (cases_Bool (eqb k s))

none : (k s : ℕ) → k ≢ s → one k s ≡ 0
unfolding one
none k s other = cond-false {A = ℕ} (eqb k s) 1 0 (ne_eqb k s other)

-- each section is given free once at most
apart : (s : ℕ) → one 1 s + one 2 s + one 3 s ≤ 1
apart s =
    ⊎_elim
    (λ (first : 1 ≡ s). omega (arith, few 1 s, none 2 s (λ e. omega (arith, e, first)), none 3 s (λ e. omega (arith, e, first))))
    (λ (not_first : 1 ≢ s). ⊎_elim
    (λ (second : 2 ≡ s). omega (arith, none 1 s not_first, few 2 s, none 3 s (λ e. omega (arith, e, second))))
    (λ (not_second : 2 ≢ s). omega (arith, none 1 s not_first, none 2 s not_second, few 3 s))
    (cases_eq 2 s))
    (cases_eq 1 s)

counts : (s k : ℕ) (e : Event) → e.class ≡ Free → e.number ≡ k → count_by (is_of Free s) (e ∷ []) ≡ one k s
unfolding one
counts s k e class number =
    let same : cond {A = ℕ} (is_of Free s e) 1 0 ≡ cond {A = ℕ} (eqb k s) 1 0 = λ i. cond {A = ℕ} (eqb (class_number (class i)) 0 && eqb (number i) s) 1 0 in
    omega (arith, sum_by-cons (λ x. cond (is_of Free s x) 1 0) e [], same)

pub returns : goal.returns
returns c = λ s.
    omega (
      arith,
      apart s,
      counts s 1 c.event.result c.event.ensures.class c.event.ensures.number,
      counts s 2 c.event-2.result c.event-2.ensures.class c.event-2.ensures.number,
      counts s 3 c.event-3.result c.event-3.ensures.class c.event-3.ensures.number,
      c.push.ensures.counted (is_of Free s),
      c.push-2.ensures.counted (is_of Free s),
      c.push-3.ensures.counted (is_of Free s),
      ap (count_by (is_of Free s)) c.in_ok-queue.ensures.empty,
    )
