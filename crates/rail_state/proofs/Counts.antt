-- Counting events.
use Rattle.std.proofs.Common.{◌≡◌, ℕ, zero, suc, ◌+◌, ◌<◌, ◌≤◌, Bool, true, false, not, ◌&&◌, ◌||◌, cond, List, [], ◌∷◌, ◌++◌, length, refl, sym, ap, ◌∙◌, ⊎_elim, arith}
use Rattle.std.specs.Prelude.{count_by}
use Rattle.std.specs.List.{list_any}
use Rattle.std.proofs.lemmas.Bool.{cases_Bool, cases_lt, cond-true, cond-false, false≢true, or_left, or_right}
use Rattle.std.proofs.lemmas.List.Sums.{sum_by-cons}
use Rattle.rail_rules.specs.Numbers.{gather}
use Rattle.rail_queue.specs.declared.event.Event.{Event}

pub count-cons : (p : Event → Bool) (e : Event) (es : List Event) → count_by p (e ∷ es) ≡ cond (p e) 1 0 + count_by p es
count-cons p e es = sum_by-cons (λ x. cond (p x) 1 0) e es

pub count-none : (p : Event → Bool) (es : List Event) → list_any p es ≡ false → count_by p es ≡ 0
count-none p [] h = refl
count-none p (e ∷ es) h =
    ⊎_elim
    (λ here. absurd (false≢true (sym h ∙ or_left (p e) (list_any p es) here)))
    (λ not_here. ⊎_elim
    (λ later. absurd (false≢true (sym h ∙ or_right (p e) (list_any p es) later)))
    (λ not_later. omega (arith, count-cons p e es, cond-false {A = ℕ} (p e) 1 0 not_here, count-none p es not_later))
    (cases_Bool (list_any p es)))
    (cases_Bool (p e))

pub count-append : (p : Event → Bool) (xs ys : List Event) → count_by p (xs ++ ys) ≡ count_by p xs + count_by p ys
count-append p [] ys = omega arith
count-append p (x ∷ xs) ys = omega (arith, count-cons p x (xs ++ ys), count-cons p x xs, count-append p xs ys)

-- no list of the numbers has an event that passes
pub count-gather_zero : (p : Event → Bool) (f : ℕ → List Event) (n : ℕ) → ((i : ℕ) → i < n → count_by p (f i) ≡ 0) → count_by p (gather f n) ≡ 0
count-gather_zero p f zero each = refl
count-gather_zero p f (suc n) each = omega (arith, count-append p (gather f n) (f n), count-gather_zero p f n (λ i lt. each i (omega (arith, lt))), each n (omega arith))

cond-le : (a b : Bool) → (a ≡ true → b ≡ true) → cond a 1 0 ≤ cond b 1 0
cond-le true b h = omega (arith, cond-true {A = ℕ} b 1 0 (h refl))
cond-le false b h = omega arith

pub count-le : (p q : Event → Bool) (es : List Event) → ((e : Event) → p e ≡ true → q e ≡ true) → count_by p es ≤ count_by q es
count-le p q [] h = omega arith
count-le p q (e ∷ es) h = omega (arith, count-cons p e es, count-cons q e es, cond-le (p e) (q e) (h e), count-le p q es h)

-- lists that differ at one number
pub count-exchanged : (p : Event → Bool) (f g : ℕ → List Event) (n t : ℕ) → t < n → ((i : ℕ) → i < n → (i ≡ t → ⊥) → f i ≡ g i) → count_by p (gather f n) + count_by p (g t) ≡ count_by p (gather g n) + count_by p (f t)
count-exchanged p f g zero t lt others = absurd (omega (arith, lt))
count-exchanged p f g (suc n) t lt others =
    ⊎_elim
    (λ below. omega (
      arith,
      count-exchanged p f g n t below (λ i li ne. others i (omega (arith, li)) ne),
      count-append p (gather f n) (f n),
      count-append p (gather g n) (g n),
      ap (count_by p) (others n (omega arith) (λ e. omega (arith, below, e))),
    ))
    (λ above.
    let here : t ≡ n = omega (arith, lt, above) in
    omega (
      arith,
      ap (λ k. count_by p (g k)) here,
      ap (λ k. count_by p (f k)) here,
      count-append p (gather f n) (f n),
      count-append p (gather g n) (g n),
      same f g n (λ i li. others i (omega (arith, li)) (λ e. omega (arith, above, li, e))),
    ))
    (cases_lt t n)
  where
    same : (f g : ℕ → List Event) (n : ℕ) → ((i : ℕ) → i < n → f i ≡ g i) → count_by p (gather f n) ≡ count_by p (gather g n)
    same f g zero each = refl
    same f g (suc n) each = omega (arith, count-append p (gather f n) (f n), count-append p (gather g n) (g n), same f g n (λ i li. each i (omega (arith, li))), ap (count_by p) (each n (omega arith)))

-- all events are counted by the test that each passes
pub count-all : (es : List Event) → count_by (λ e. true) es ≡ length es
count-all [] = refl
count-all (e ∷ es) = omega (arith, count-cons (λ x. true) e es, count-all es)

-- tests that agree count the same
pub count-same : (p q : Event → Bool) (es : List Event) → ((e : Event) → p e ≡ q e) → count_by p es ≡ count_by q es
count-same p q [] h = refl
count-same p q (e ∷ es) h = omega (arith, count-cons p e es, count-cons q e es, ap {B = ℕ} (λ b. cond b 1 0) (h e), count-same p q es h)

-- no event passes a test that none passes
pub count-nothing : (es : List Event) → count_by (λ e. false) es ≡ 0
count-nothing [] = refl
count-nothing (e ∷ es) = omega (arith, count-cons (λ x. false) e es, count-nothing es)

-- what passes is split by another test
pub count-parts : (p q : Event → Bool) (es : List Event) → count_by p es ≡ count_by (λ e. q e && p e) es + count_by (λ e. not (q e) && p e) es
count-parts p q [] = refl
count-parts p q (e ∷ es) =
    omega (
      arith,
      count-cons p e es,
      count-cons (λ x. q x && p x) e es,
      count-cons (λ x. not (q x) && p x) e es,
      count-parts p q es,
      one (q e) (p e),
    )
  where
    one : (a b : Bool) → cond b 1 0 ≡ cond (a && b) 1 0 + cond (not a && b) 1 0
    one true b = omega arith
    one false b = omega arith

-- of two tests that no event passes both, either
pub count-either : (a b q : Event → Bool) (es : List Event) → ((e : Event) → a e ≡ true → b e ≡ false)
    → count_by (λ e. (a e || b e) && q e) es ≡ count_by (λ e. a e && q e) es + count_by (λ e. b e && q e) es
count-either a b q [] apart = refl
count-either a b q (e ∷ es) apart =
    omega (
      arith,
      count-cons (λ x. (a x || b x) && q x) e es,
      count-cons (λ x. a x && q x) e es,
      count-cons (λ x. b x && q x) e es,
      count-either a b q es apart,
      one (a e) (b e) (q e) (apart e),
    )
  where
    one : (x y z : Bool) → (x ≡ true → y ≡ false) → cond ((x || y) && z) 1 0 ≡ cond (x && z) 1 0 + cond (y && z) 1 0
    one true true z h = absurd (false≢true (sym (h refl)))
    one true false z h = omega arith
    one false y z h = omega arith
