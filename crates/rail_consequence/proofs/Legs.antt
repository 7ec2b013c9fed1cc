-- Legs and legal moves, by their parts.
use Rattle.std.proofs.Common.{◌≡◌, ◌≢◌, ℕ, ◌<◌, ◌≤◌, Bool, true, false, not, ◌&&◌, ◌||◌, eqb, ltb, leb, List, length, set, sym, ap, ◌∙◌, ⊎_elim, arith}
use Rattle.std.proofs.lemmas.Bool.{and_parts, and_from, or_cases, or_left, or_right, cases_lt, cases_Bool, false≢true, ltb-true, lt-ltb, leb-true, le-leb, eqb-false, ne_eqb, not-true, not_from_false}
use Rattle.std.proofs.lemmas.List.{get_or_past}
use Rattle.std.specs.List.{list_any}
use Rattle.rail_rules.specs.Numbers.{any_below, all_below, is_in, are_apart}
use Rattle.rail_rules.specs.Moves.{Moves}
use Rattle.rail_rules.specs.Places.{place_of, is_inside, holds, has_holder, is_legal, nobody_inside}
use Rattle.rail_rules.specs.Analysis.{Leg, is_leg, needs_later}
use Rattle.rail_consequence.specs.Cores.{IsClear}
use Rattle.rail_rules.proofs.CallerLemmas.{all_below_at, all_below_from, any_below_at, any_below_none, any_below_from, list_any_at, list_any_none}

pub inside_from : (plan : Moves) (s : List ℕ) (t : ℕ) → 0 < place_of s t → place_of s t < plan.moves t → is_inside plan s t ≡ true
inside_from plan s t low high = and_from (ltb 0 (place_of s t)) (ltb (place_of s t) (plan.moves t)) (lt-ltb 0 (place_of s t) low) (lt-ltb (place_of s t) (plan.moves t) high)

pub inside_parts : (plan : Moves) (s : List ℕ) (t : ℕ) → is_inside plan s t ≡ true → (0 < place_of s t) × (place_of s t < plan.moves t)
inside_parts plan s t h =
    let parts = and_parts (ltb 0 (place_of s t)) (ltb (place_of s t) (plan.moves t)) h in
    (ltb-true 0 (place_of s t) parts.0, ltb-true (place_of s t) (plan.moves t) parts.1)

pub inside_listed : (plan : Moves) (s : List ℕ) (t : ℕ) → is_inside plan s t ≡ true → t < length s
inside_listed plan s t h =
    let parts = inside_parts plan s t h in
    ⊎_elim (λ lt. lt) (λ past. absurd (omega (arith, parts.0, get_or_past s t 0 past))) (cases_lt t (length s))

pub inside_same : (plan : Moves) (s r : List ℕ) (t : ℕ) → place_of r t ≡ place_of s t → is_inside plan s t ≡ true → is_inside plan r t ≡ true
inside_same plan s r t same h = ap (λ p. ltb 0 p && ltb p (plan.moves t)) same ∙ h

pub nobody_from : (plan : Moves) (s : List ℕ) → ((t : ℕ) → is_inside plan s t ≡ false) → nobody_inside plan s ≡ true
nobody_from plan s h = not_from_false (any_below (is_inside plan s) (length s)) (any_below_none (is_inside plan s) (length s) (λ t lt. h t))

pub nobody_at : (plan : Moves) (s : List ℕ) (t : ℕ) → nobody_inside plan s ≡ true → is_inside plan s t ≡ false
nobody_at plan s t h =
    ⊎_elim
    (λ lt. any_below_at (is_inside plan s) (length s) t (not-true (any_below (is_inside plan s) (length s)) h) lt)
    (λ past. ap (λ p. ltb 0 p && ltb p (plan.moves t)) (get_or_past s t 0 past))
    (cases_lt t (length s))

-- the parts of a leg
pub record Goes (plan : Moves) (s : List ℕ) (t p : ℕ) : Type 0 where
  pub inside : is_inside plan s t ≡ true
  pub ahead : place_of s t < p
  pub within : p ≤ plan.moves t
  pub legal : (i : ℕ) → place_of s t ≤ i → i < p → is_legal plan (set s t i) t ≡ true

pub goes_parts : (plan : Moves) (s : List ℕ) (leg : Leg) → is_leg plan s leg ≡ true → Goes plan s leg.train leg.place
goes_parts plan s leg h =
    let step : ℕ → Bool = λ i. ltb i (place_of s leg.train) || is_legal plan (set s leg.train i) leg.train in
    let three = and_parts (is_inside plan s leg.train && ltb (place_of s leg.train) leg.place && leb leg.place (plan.moves leg.train)) (all_below step leg.place) h in
    let two = and_parts (is_inside plan s leg.train && ltb (place_of s leg.train) leg.place) (leb leg.place (plan.moves leg.train)) three.0 in
    let one = and_parts (is_inside plan s leg.train) (ltb (place_of s leg.train) leg.place) two.0 in
    record {
      inside = one.0;
      ahead = ltb-true (place_of s leg.train) leg.place one.1;
      within = leb-true leg.place (plan.moves leg.train) two.1;
      legal = λ i from below.
          ⊎_elim
          (λ earlier. let lt : i < place_of s leg.train = ltb-true i (place_of s leg.train) earlier in absurd (omega arith))
          (λ legal. legal)
          (or_cases (ltb i (place_of s leg.train)) (is_legal plan (set s leg.train i) leg.train) (all_below_at step leg.place i three.1 below));
    }

pub leg_from : (plan : Moves) (s : List ℕ) (leg : Leg) → Goes plan s leg.train leg.place → is_leg plan s leg ≡ true
leg_from plan s leg goes =
    let step : ℕ → Bool = λ i. ltb i (place_of s leg.train) || is_legal plan (set s leg.train i) leg.train in
    and_from (is_inside plan s leg.train && ltb (place_of s leg.train) leg.place && leb leg.place (plan.moves leg.train)) (all_below step leg.place)
    (and_from (is_inside plan s leg.train && ltb (place_of s leg.train) leg.place) (leb leg.place (plan.moves leg.train))
    (and_from (is_inside plan s leg.train) (ltb (place_of s leg.train) leg.place) goes.inside (lt-ltb (place_of s leg.train) leg.place goes.ahead))
    (le-leb leg.place (plan.moves leg.train) goes.within))
    (all_below_from step leg.place (λ i below.
    ⊎_elim
    (λ earlier. or_left (ltb i (place_of s leg.train)) (is_legal plan (set s leg.train i) leg.train) (lt-ltb i (place_of s leg.train) earlier))
    (λ from. or_right (ltb i (place_of s leg.train)) (is_legal plan (set s leg.train i) leg.train) (goes.legal i from below))
    (cases_lt i (place_of s leg.train))))

abbrev pub needs_test : Moves → List ℕ → List ℕ → ℕ → ℕ → Bool
needs_test plan s sections u i = leb (place_of s u) i && not (are_apart (plan.claim u i) sections)

pub clear_from : (plan : Moves) (s : List ℕ) (t : ℕ) (sections : List ℕ) → any_below (λ u. not (eqb u t) && needs_later plan s sections u) (length s) ≡ false → IsClear plan s t sections
clear_from plan s t sections none = λ u i ne inside from below.
    let test : ℕ → Bool = λ v. not (eqb v t) && needs_later plan s sections v in
    ⊎_elim
    (λ apart. apart)
    (λ meets.
    let needs : any_below (needs_test plan s sections u) (plan.moves u) ≡ true =
    any_below_from (needs_test plan s sections u)
    (plan.moves u)
    i below
    (and_from (leb (place_of s u) i)
    (not (are_apart (plan.claim u i) sections))
    (le-leb (place_of s u) i from)
    (not_from_false (are_apart (plan.claim u i) sections) meets))
    in
    let later : needs_later plan s sections u ≡ true = and_from (is_inside plan s u) (any_below (needs_test plan s sections u) (plan.moves u)) inside needs in
    let found : test u ≡ true = and_from (not (eqb u t)) (needs_later plan s sections u) (not_from_false (eqb u t) (ne_eqb u t ne)) later in
    absurd (false≢true (sym none ∙ any_below_from test (length s) u (inside_listed plan s u inside) found)))
    (cases_Bool (are_apart (plan.claim u i) sections))

pub clear_to : (plan : Moves) (s : List ℕ) (t : ℕ) (sections : List ℕ) → IsClear plan s t sections → any_below (λ u. not (eqb u t) && needs_later plan s sections u) (length s) ≡ false
clear_to plan s t sections clear =
    any_below_none (λ u. not (eqb u t) && needs_later plan s sections u) (length s) (λ u lt.
    ⊎_elim
    (λ found.
    let parts = and_parts (not (eqb u t)) (needs_later plan s sections u) found in
    let later = and_parts (is_inside plan s u) (any_below (needs_test plan s sections u) (plan.moves u)) parts.1 in
    absurd (false≢true (sym (any_below_none (needs_test plan s sections u) (plan.moves u) (λ i below.
    ⊎_elim
    (λ needs.
    let both = and_parts (leb (place_of s u) i) (not (are_apart (plan.claim u i) sections)) needs in
    absurd (false≢true (sym (not-true (are_apart (plan.claim u i) sections) both.1) ∙ clear u i (eqb-false u t (not-true (eqb u t) parts.0)) later.0 (leb-true (place_of s u) i both.0) below)))
    (λ out. out)
    (cases_Bool (needs_test plan s sections u i)))) ∙ later.1)))
    (λ out. out)
    (cases_Bool (not (eqb u t) && needs_later plan s sections u)))

-- in a state in which no other train needs more
pub clear_later : (plan : Moves) (s r : List ℕ) (t : ℕ) (sections : List ℕ)
    → ((u : ℕ) → u ≢ t → is_inside plan r u ≡ true → (is_inside plan s u ≡ true) × (place_of s u ≤ place_of r u))
    → IsClear plan s t sections → IsClear plan r t sections
clear_later plan s r t sections on clear = λ u i ne inside from below. clear u i ne (on u ne inside).0 (omega (arith, (on u ne inside).1, from)) below

-- a move stays legal where no needed section gets a holder
pub legal_kept : (plan : Moves) (s r : List ℕ) (t : ℕ) → length r ≡ length s → place_of r t ≡ place_of s t
    → ((u x : ℕ) → is_in x (plan.claim t (place_of s t)) ≡ true → holds plan s u x ≡ false
    → holds plan r u x ≡ false)
    → is_legal plan s t ≡ true → is_legal plan r t ≡ true
legal_kept plan s r t long same kept h =
    let needed : List ℕ = plan.claim t (place_of s t) in
    let parts = and_parts (ltb (place_of s t) (plan.moves t)) (not (list_any (has_holder plan s) needed)) h in
    let nobody = not-true (list_any (has_holder plan s) needed) parts.1 in
    let free : list_any (has_holder plan r) needed ≡ false = list_any_none (has_holder plan r) needed (λ x is.
    any_below_none (λ u. holds plan r u x) (length r) (λ u lt.
    kept u x is (any_below_at (λ v. holds plan s v x) (length s) u (list_any_at (has_holder plan s) needed x nobody is) (omega (arith, long))))) in
    and_from (ltb (place_of r t) (plan.moves t)) (not (list_any (has_holder plan r) (plan.claim t (place_of r t))))
    (ap (λ p. ltb p (plan.moves t)) same ∙ parts.0)
    (not_from_false (list_any (has_holder plan r) (plan.claim t (place_of r t))) (ap (λ p. list_any (has_holder plan r) (plan.claim t p)) same ∙ free))
