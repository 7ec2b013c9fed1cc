-- Trying every list of so many legs finds one exactly where there is one.
use Rattle.std.proofs.Common.{◌≡◌, ℕ, zero, suc, ◌+◌, ◌-◌, ◌<◌, ◌≤◌, Bool, true, false, ◌&&◌, ◌||◌, cond, ltb, leb, List, [], ◌∷◌, length, set, refl, sym, ◌∙◌, subst, ⊎_elim, arith, ◌↔◌}
use Rattle.std.proofs.lemmas.Bool.{and_parts, and_from, or_cases, or_left, or_right, cases_lt, cases_eq, cases_Bool, ltb-true, leb-true, lt-ltb, cond-true, cond-false}
use Rattle.std.proofs.lemmas.List.{get_or-set_same, get_or-set_other, length-set, get_or_past}
use Rattle.rail_rules.specs.Numbers.{any_below, all_below, sum_below}
use Rattle.rail_rules.specs.Moves.{Moves}
use Rattle.rail_rules.specs.Places.{place_of, is_inside, is_legal, nobody_inside}
use Rattle.rail_rules.specs.Analysis.{Leg, is_leg, after_leg, is_safe, clears, free_legs, Finds, moves_left, finds_within, finds}
use Rattle.rail_rules.proofs.Below.{any_below_from, any_below_found, sum_below-lt}

-- the parts of a leg
pub record IsLeg (plan : Moves) (s : List ℕ) (leg : Leg) : Type 0 where
  pub listed : leg.train < length s
  pub inside : 0 < place_of s leg.train
  pub ahead : place_of s leg.train < leg.place
  pub within : leg.place ≤ plan.moves leg.train

pub leg_parts : (plan : Moves) (s : List ℕ) (leg : Leg) → is_leg plan s leg ≡ true → IsLeg plan s leg
leg_parts plan s leg h =
    let steps : Bool = all_below (λ i. ltb i (place_of s leg.train) || is_legal plan (set s leg.train i) leg.train) leg.place in
    let three = and_parts (is_inside plan s leg.train && ltb (place_of s leg.train) leg.place && leb leg.place (plan.moves leg.train)) steps h in
    let two = and_parts (is_inside plan s leg.train && ltb (place_of s leg.train) leg.place) (leb leg.place (plan.moves leg.train)) three.0 in
    let one = and_parts (is_inside plan s leg.train) (ltb (place_of s leg.train) leg.place) two.0 in
    let in_parts = and_parts (ltb 0 (place_of s leg.train)) (ltb (place_of s leg.train) (plan.moves leg.train)) one.0 in
    let low : 0 < place_of s leg.train = ltb-true 0 (place_of s leg.train) in_parts.0 in
    record {
      listed = ⊎_elim (λ lt. lt) (λ past. absurd (omega (arith, low, get_or_past s leg.train 0 past))) (cases_lt leg.train (length s));
      inside = low;
      ahead = ltb-true (place_of s leg.train) leg.place one.1;
      within = leb-true leg.place (plan.moves leg.train) two.1;
    }

-- a leg leaves fewer moves
fewer_left : (plan : Moves) (s : List ℕ) (leg : Leg) → is_leg plan s leg ≡ true → moves_left plan (after_leg s leg) < moves_left plan s
fewer_left plan s leg h =
    let parts = leg_parts plan s leg h in
    let left : List ℕ → ℕ → ℕ = λ r t. plan.moves t - place_of r t in
    let next : List ℕ = set s leg.train leg.place in
    let here : place_of next leg.train ≡ leg.place = get_or-set_same s leg.train leg.place 0 parts.listed in
    let less : left next leg.train < left s leg.train = omega (arith, here, parts.ahead, parts.within) in
    let no_more : (t : ℕ) → t < length s → left next t ≤ left s t = λ t _. ⊎_elim
    (λ same. let P : ℕ → Type 0 = λ k. left next k ≤ left s k in subst P (sym same) (omega (arith, less)))
    (λ other. omega (arith, get_or-set_other s leg.train t leg.place 0 other))
    (cases_eq t leg.train) in
    let P : ℕ → Type 0 = λ n. sum_below (left next) n < sum_below (left s) (length s) in
    subst P (sym (length-set s leg.train leg.place)) (sum_below-lt (left next) (left s) (length s) leg.train parts.listed no_more less)

-- 1 for a free leg
cost : Moves → List ℕ → Leg → ℕ
cost plan s leg = cond (is_safe plan s leg) 0 1

cost-safe : (plan : Moves) (s : List ℕ) (leg : Leg) → is_safe plan s leg ≡ true → cost plan s leg ≡ 0
unfolding cost
cost-safe plan s leg safe = cond-true (is_safe plan s leg) 0 1 safe

cost-free : (plan : Moves) (s : List ℕ) (leg : Leg) → is_safe plan s leg ≡ false → cost plan s leg ≡ 1
unfolding cost
cost-free plan s leg unsafe = cond-false (is_safe plan s leg) 0 1 unsafe

free_legs-cons : (plan : Moves) (s : List ℕ) (leg : Leg) (legs : List Leg) → free_legs plan s (leg ∷ legs) ≡ cost plan s leg + free_legs plan (after_leg s leg) legs
unfolding cost
free_legs-cons plan s leg legs = refl

-- what goes on after a leg: the same number of free legs after a safe one, one less after a free one
on_from : Moves → ℕ → ℕ → List ℕ → Leg → Bool
on_from plan n k s leg = cond (is_safe plan s leg) (finds_within plan n k (after_leg s leg)) (ltb 0 k && finds_within plan n (k - 1) (after_leg s leg))

tries : Moves → ℕ → ℕ → List ℕ → ℕ → ℕ → Bool
tries plan n k s t p = let leg : Leg = record { train = t; place = p } in is_leg plan s leg && on_from plan n k s leg

-- a leg in front of legs that were found
found_after : (plan : Moves) (k : ℕ) (s : List ℕ) (leg : Leg) (n : ℕ) → ((j : ℕ) (r : List ℕ) → finds_within plan n j r ≡ true → Finds plan j r) → is_leg plan s leg ≡ true → on_from plan n k s leg ≡ true → Finds plan k s
unfolding on_from
found_after plan k s leg n found is on =
    let later : List ℕ = after_leg s leg in
    ⊎_elim
    (λ safe.
    let rest = found k later (sym (cond-true (is_safe plan s leg) (finds_within plan n k later) (ltb 0 k && finds_within plan n (k - 1) later) safe) ∙ on) in
    let result : Finds plan k s = (leg ∷ rest.0, and_from (is_leg plan s leg) (clears plan later rest.0) is rest.1, rw free_legs-cons (omega (arith, cost-safe plan s leg safe, rest.2))) in
    result)
    (λ unsafe.
    let parts = and_parts (ltb 0 k) (finds_within plan n (k - 1) later) (sym (cond-false (is_safe plan s leg) (finds_within plan n k later) (ltb 0 k && finds_within plan n (k - 1) later) unsafe) ∙ on) in
    let some : 0 < k = ltb-true 0 k parts.0 in
    let rest = found (k - 1) later parts.1 in
    let result : Finds plan k s = (leg ∷ rest.0, and_from (is_leg plan s leg) (clears plan later rest.0) is rest.1, rw free_legs-cons (omega (arith, cost-free plan s leg unsafe, some, rest.2))) in
    result)
    (cases_Bool (is_safe plan s leg))

found_within : (plan : Moves) (n k : ℕ) (s : List ℕ) → finds_within plan n k s ≡ true → Finds plan k s
unfolding tries on_from
found_within plan zero k s h = ([], h, omega arith)
found_within plan (suc n) k s h =
    ⊎_elim
    (λ nobody. let result : Finds plan k s = ([], nobody, omega arith) in result)
    (λ some.
    let train = any_below_found (λ t. any_below (tries plan n k s t) (suc (plan.moves t))) (length s) some in
    let place = any_below_found (tries plan n k s train.0) (suc (plan.moves train.0)) train.2 in
    let leg : Leg = record { train = train.0; place = place.0 } in
    let both = and_parts (is_leg plan s leg) (on_from plan n k s leg) place.2 in
    found_after plan k s leg n (found_within plan n) both.0 both.1)
    (or_cases (nobody_inside plan s) (any_below (λ t. any_below (tries plan n k s t) (suc (plan.moves t))) (length s)) h)

within_found : (plan : Moves) (n k : ℕ) (s : List ℕ) (legs : List Leg) → moves_left plan s ≤ n → clears plan s legs ≡ true → free_legs plan s legs ≤ k → finds_within plan n k s ≡ true
unfolding tries on_from
within_found plan zero k s [] few clear free = clear
within_found plan zero k s (leg ∷ legs) few clear free =
    let both = and_parts (is_leg plan s leg) (clears plan (after_leg s leg) legs) clear in
    absurd (omega (arith, fewer_left plan s leg both.0))
within_found plan (suc n) k s [] few clear free = or_left (nobody_inside plan s) (any_below (λ t. any_below (tries plan n k s t) (suc (plan.moves t))) (length s)) clear
within_found plan (suc n) k s (leg ∷ legs) few clear free =
    let later : List ℕ = after_leg s leg in
    let both = and_parts (is_leg plan s leg) (clears plan later legs) clear in
    let parts = leg_parts plan s leg both.0 in
    let fewer = fewer_left plan s leg both.0 in
    let counted : cost plan s leg + free_legs plan later legs ≤ k = rw (← free_legs-cons plan s leg legs) free in
    let on : on_from plan n k s leg ≡ true =
    ⊎_elim
    (λ safe.
    cond-true (is_safe plan s leg) (finds_within plan n k later) (ltb 0 k && finds_within plan n (k - 1) later) safe
    ∙ within_found plan n k later legs (omega (arith, fewer, few)) both.1 (omega (arith, counted, cost-safe plan s leg safe)))
    (λ unsafe.
    let one : cost plan s leg ≡ 1 = cost-free plan s leg unsafe in
    cond-false (is_safe plan s leg) (finds_within plan n k later) (ltb 0 k && finds_within plan n (k - 1) later) unsafe
    ∙ and_from (ltb 0 k) (finds_within plan n (k - 1) later) (lt-ltb 0 k (omega (arith, one, counted)))
    (within_found plan n (k - 1) later legs (omega (arith, fewer, few)) both.1 (omega (arith, one, counted))))
    (cases_Bool (is_safe plan s leg)) in
    or_right (nobody_inside plan s) (any_below (λ t. any_below (tries plan n k s t) (suc (plan.moves t))) (length s))
    (any_below_from (λ t. any_below (tries plan n k s t) (suc (plan.moves t))) (length s) leg.train parts.listed
    (any_below_from (tries plan n k s leg.train) (suc (plan.moves leg.train)) leg.place (omega (arith, parts.within))
    (and_from (is_leg plan s leg) (on_from plan n k s leg) both.0 on)))

pub finds_exactly : (plan : Moves) (k : ℕ) (s : List ℕ) → (finds plan k s ≡ true) ↔ Finds plan k s
finds_exactly plan k s = (
  λ h. found_within plan (moves_left plan s) k s h,
  λ found. within_found plan (moves_left plan s) k s found.0 (omega arith) found.1 found.2,
)
