-- Legs and their moves, and which depth of the search suffices.
use Rattle.std.proofs.Common.{◌≡◌, ℕ, zero, suc, ◌+◌, ◌-◌, ◌<◌, ◌≤◌, Bool, true, false, ◌&&◌, ◌||◌, cond, ltb, leb, List, [], ◌∷◌, ◌++◌, length, set, replicate, sym, ap, ◌∙◌, subst, ⊎_elim, arith, ◌↔◌}
use Rattle.std.proofs.lemmas.Bool.{and_parts, and_from, or_cases, or_left, or_right, cases_lt, cases_eq, ltb-true, lt-ltb, le-leb}
use Rattle.std.proofs.lemmas.List.{get_or-set_same, get_or-set_other, length-set, get_or_past, set-set, set-get_or}
use Rattle.rail_rules.specs.Numbers.{all_below, sum_below}
use Rattle.rail_rules.specs.Moves.{Moves}
use Rattle.rail_rules.specs.Places.{place_of, is_inside, is_legal, after, completes}
use Rattle.rail_rules.specs.Analysis.{Leg, is_leg, after_leg, is_safe, clears, free_legs, Finds, moves_left}
use Rattle.rail_rules.proofs.CallerLemmas.{all_below_at, all_below_from, sum_below-lt, leg_parts}
use Rattle.rail_laws_list.specs.Locked.{HasList}

-- with more free legs no less is found
pub deeper : (plan : Moves) (j k : ℕ) (s : List ℕ) → j ≤ k → Finds plan j s → Finds plan k s
deeper plan j k s le found = (found.0, found.1, omega (arith, le, found.2))

-- the moves of a leg, one after another
along_leg : (plan : Moves) (s : List ℕ) (leg : Leg) (rest : List ℕ) → is_leg plan s leg ≡ true
    → completes plan (after_leg s leg) rest ≡ true → (n i : ℕ) → i + n ≡ leg.place
    → place_of s leg.train ≤ i → completes plan (set s leg.train i) (replicate n leg.train ++ rest) ≡ true
along_leg plan s leg rest is on zero i at from =
    let P : ℕ → Type 0 = λ p. completes plan (set s leg.train p) rest ≡ true in
    let same : leg.place ≡ i = omega (arith, at) in
    subst P same on
along_leg plan s leg rest is on (suc n) i at from =
    let later : completes plan (set s leg.train (suc i)) (replicate n leg.train ++ rest) ≡ true = along_leg plan s leg rest is on n (suc i) (omega (arith, at)) (omega (arith, from)) in
    let parts = leg_parts plan s leg is in
    let here : List ℕ = set s leg.train i in
    let now : place_of here leg.train ≡ i = get_or-set_same s leg.train i 0 parts.listed in
    let step : ℕ → Bool = λ k. ltb k (place_of s leg.train) || is_legal plan (set s leg.train k) leg.train in
    let steps = and_parts (is_inside plan s leg.train && ltb (place_of s leg.train) leg.place && leb leg.place (plan.moves leg.train)) (all_below step leg.place) is in
    let this = all_below_at step leg.place i steps.1 (omega (arith, at)) in
    let legal : is_legal plan here leg.train ≡ true =
    ⊎_elim
    (λ low. absurd (omega (arith, ltb-true i (place_of s leg.train) low, from)))
    (λ legal. legal)
    (or_cases (ltb i (place_of s leg.train)) (is_legal plan here leg.train) this) in
    let P : ℕ → Type 0 = λ p. (ltb 0 p && ltb p (plan.moves leg.train)) ≡ true in
    let inside : is_inside plan here leg.train ≡ true =
    subst P (sym now) (and_from (ltb 0 i) (ltb i (plan.moves leg.train)) (lt-ltb 0 i (omega (arith, parts.inside, from))) (lt-ltb i (plan.moves leg.train) (omega (arith, at, parts.within)))) in
    let next : after here leg.train ≡ set s leg.train (suc i) = ap (λ p. set here leg.train (suc p)) now ∙ set-set s leg.train i (suc i) in
    let Q : List ℕ → Type 0 = λ r. completes plan r (replicate n leg.train ++ rest) ≡ true in
    and_from (is_inside plan here leg.train && is_legal plan here leg.train) (completes plan (after here leg.train) (replicate n leg.train ++ rest))
    (and_from (is_inside plan here leg.train) (is_legal plan here leg.train) inside legal)
    (subst Q (sym next) later)

-- where legs bring every train inside to its exit, their moves do so as well
pub unrolled : (plan : Moves) (s : List ℕ) (legs : List Leg) → clears plan s legs ≡ true → HasList plan s
unrolled plan s [] clear = record { list = []; completing = clear }
unrolled plan s (leg ∷ legs) clear =
    let both = and_parts (is_leg plan s leg) (clears plan (after_leg s leg) legs) clear in
    let parts = leg_parts plan s leg both.0 in
    let rest : HasList plan (after_leg s leg) = unrolled plan (after_leg s leg) legs both.1 in
    let n : ℕ = leg.place - place_of s leg.train in
    let P : List ℕ → Type 0 = λ r. completes plan r (replicate n leg.train ++ rest.list) ≡ true in
    record {
      list = replicate n leg.train ++ rest.list;
      completing = subst P (set-get_or s leg.train 0) (along_leg plan s leg rest.list both.0 rest.completing n (place_of s leg.train) (omega (arith, parts.ahead)) (omega arith));
    }

-- the next move of a train as a leg
one_move : List ℕ → ℕ → Leg
one_move s t = record { train = t; place = suc (place_of s t) }

module _ (plan : Moves) (s : List ℕ) (t : ℕ) (inside : is_inside plan s t ≡ true) (legal : is_legal plan s t ≡ true) where
  in_parts : (ltb 0 (place_of s t) ≡ true) × (ltb (place_of s t) (plan.moves t) ≡ true)
  in_parts = and_parts (ltb 0 (place_of s t)) (ltb (place_of s t) (plan.moves t)) inside

  listed : t < length s
  listed = ⊎_elim (λ lt. lt) (λ past. absurd (omega (arith, ltb-true 0 (place_of s t) in_parts.0, get_or_past s t 0 past))) (cases_lt t (length s))

  is_one : is_leg plan s (one_move s t) ≡ true
  unfolding one_move
  is_one =
      let p : ℕ = place_of s t in
      let step : ℕ → Bool = λ i. ltb i p || is_legal plan (set s t i) t in
      and_from (is_inside plan s t && ltb p (suc p) && leb (suc p) (plan.moves t)) (all_below step (suc p))
      (and_from (is_inside plan s t && ltb p (suc p)) (leb (suc p) (plan.moves t))
      (and_from (is_inside plan s t) (ltb p (suc p)) inside (lt-ltb p (suc p) (omega arith)))
      (le-leb (suc p) (plan.moves t) (omega (arith, ltb-true p (plan.moves t) in_parts.1))))
      (all_below_from step (suc p) (λ i lt.
      ⊎_elim
      (λ below. or_left (ltb i p) (is_legal plan (set s t i) t) (lt-ltb i p below))
      (λ above.
      let same : p ≡ i = omega (arith, lt, above) in
      let P : ℕ → Type 0 = λ k. is_legal plan (set s t k) t ≡ true in
      let Q : List ℕ → Type 0 = λ r. is_legal plan r t ≡ true in
      or_right (ltb i p) (is_legal plan (set s t i) t) (subst P same (subst Q (sym (set-get_or s t 0)) legal)))
      (cases_lt i p)))

  one_less : moves_left plan (after s t) < moves_left plan s
  one_less =
      let left : List ℕ → ℕ → ℕ = λ r u. plan.moves u - place_of r u in
      let next : List ℕ = after s t in
      let here : place_of next t ≡ suc (place_of s t) = get_or-set_same s t (suc (place_of s t)) 0 listed in
      let less : left next t < left s t = omega (arith, here, ltb-true (place_of s t) (plan.moves t) in_parts.1) in
      let no_more : (u : ℕ) → u < length s → left next u ≤ left s u = λ u _. ⊎_elim
      (λ same. let P : ℕ → Type 0 = λ k. left next k ≤ left s k in subst P (sym same) (omega (arith, less)))
      (λ other. omega (arith, get_or-set_other s t u (suc (place_of s t)) 0 other))
      (cases_eq u t) in
      let P : ℕ → Type 0 = λ n. sum_below (left next) n < sum_below (left s) (length s) in
      subst P (sym (length-set s t (suc (place_of s t)))) (sum_below-lt (left next) (left s) (length s) t listed no_more less)

at_most_one : (b : Bool) → cond b 0 1 ≤ 1
at_most_one true = omega arith
at_most_one false = omega arith

-- a list as legs of one move each, of which no more are free than moves are left
rolled : (plan : Moves) (list s : List ℕ) → completes plan s list ≡ true → Finds plan (moves_left plan s) s
unfolding one_move
rolled plan [] s done = ([], done, omega arith)
rolled plan (t ∷ rest) s done =
    let parts = and_parts (is_inside plan s t && is_legal plan s t) (completes plan (after s t) rest) done in
    let first = and_parts (is_inside plan s t) (is_legal plan s t) parts.0 in
    let later : Finds plan (moves_left plan (after s t)) (after s t) = rolled plan rest (after s t) parts.1 in
    let leg : Leg = one_move s t in
    let is : is_leg plan s leg ≡ true = is_one plan s t first.0 first.1 in
    let few : cond (is_safe plan s leg) 0 1 + free_legs plan (after s t) later.0 ≤ moves_left plan s = omega (arith, at_most_one (is_safe plan s leg), later.2, one_less plan s t first.0 first.1) in
    (leg ∷ later.0, and_from (is_leg plan s leg) (clears plan (after_leg s leg) later.0) is later.1, few)

-- with as many free legs as moves are left, legs are found exactly where some list completes
pub found_by_any : (plan : Moves) (k : ℕ) (s : List ℕ) → moves_left plan s ≤ k → Finds plan k s ↔ HasList plan s
found_by_any plan k s few = (
  λ found. unrolled plan s found.0 found.1,
  λ has. deeper plan (moves_left plan s) k s few (rolled plan has.list s has.completing),
)
