-- What a sort by section and begin gives.
use Rattle.std.proofs.Common.{◌≡◌, ℕ, suc, ◌+◌, ◌<◌, ◌≤◌, false, List, [], ◌∷◌, length, get_or, refl, sym, ◌∙◌, arith, ⊎_elim, subst}
use Rattle.std.specs.Ordering.{nat_cmp, ordering_then, is_lt}
use Rattle.std.proofs.lemmas.Bool.{cases_eq, cases_lt, lt-ltb, le-ltb, eq-eqb, false≢true}
use Rattle.rail_capacity.specs.declared.blocking_times.BlockingTime.{BlockingTime}
use Rattle.rail_capacity.proofs.Order.{InOrder, by_section, by_begin, IsRising}

pub step : (x y : BlockingTime) → is_lt (ordering_then (nat_cmp y.section x.section) (nat_cmp y.begin x.begin)) ≡ false → InOrder x y
step x y h =
    ⊎_elim
    (λ (low : y.section < x.section). absurd (false≢true (sym h ∙ (rw (lt-ltb y.section x.section low) refl))))
    (λ (high : x.section ≤ y.section). ⊎_elim
    (λ (same : y.section ≡ x.section).
    ⊎_elim
    (λ (early : y.begin < x.begin). absurd (false≢true (sym h ∙ (rw (le-ltb y.section x.section high, eq-eqb y.section x.section same, lt-ltb y.begin x.begin early) refl))))
    (λ (late : x.begin ≤ y.begin). by_begin (sym same) late)
    (cases_lt y.begin x.begin))
    (λ (other : y.section ≡ x.section → ⊥). by_section (omega arith))
    (cases_eq y.section x.section))
    (cases_lt y.section x.section)

pub rising :
    (xs : List BlockingTime)
    → ((k : ℕ) (d : BlockingTime) → 0 ≤ k → k + 1 < length xs → is_lt (ordering_then (nat_cmp (get_or xs (k + 1) d).section (get_or xs k d).section) (nat_cmp (get_or xs (k + 1) d).begin (get_or xs k d).begin)) ≡ false)
    → IsRising xs
rising [] sorted = tt
rising (x ∷ []) sorted = tt
rising (x ∷ y ∷ rest) sorted = (
  step x y (sorted 0 x (omega arith) (omega arith)),
  rising (y ∷ rest) (λ k d low within.
      let P : ℕ → Type 0 = λ n. is_lt (ordering_then (nat_cmp (get_or (x ∷ y ∷ rest) n d).section (get_or (y ∷ rest) k d).section) (nat_cmp (get_or (x ∷ y ∷ rest) n d).begin (get_or (y ∷ rest) k d).begin)) ≡ false in
      subst P (let e : suc k + 1 ≡ suc (k + 1) = omega arith in e) (sorted (suc k) d (omega arith) (omega arith))),
)
