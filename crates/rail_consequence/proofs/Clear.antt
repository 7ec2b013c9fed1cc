-- A standing set is clear where no train but its own is counted for a section of it.
use Rattle.std.proofs.Common.{◌≡◌, ◌≢◌, ℕ, zero, suc, ◌+◌, ◌<◌, ◌≤◌, Bool, true, false, cond, eqb, List, length, refl, sym, ◌∙◌, ⊎_elim, arith}
use Rattle.std.proofs.lemmas.Bool.{cases_Bool, cases_eq, false≢true, cond-true, cond-false, eq-eqb, ne_eqb}
use Rattle.rail_rules.specs.Numbers.{sum_below, is_in}
use Rattle.rail_rules.specs.Moves.{Moves, is_valid, stand}
use Rattle.rail_rules.specs.Places.{place_of, is_inside}
use Rattle.rail_rules.specs.Analysis.{Leg, is_safe}
use Rattle.rail_rules.proofs.CallerLemmas.{apart_at, apart_from, apart_sym, stand_needed}
use Rattle.rail_sets.specs.Counts.{Columns}
use Rattle.rail_consequence.specs.Needs.{count_of, needs_left, one_if, IsCounted}
use Rattle.rail_consequence.specs.Cores.{IsClear}
use Rattle.rail_consequence.proofs.Legs.{inside_parts, inside_from, inside_listed}
use Rattle.rail_consequence.proofs.Safe.{clear_from_safe, safe_from_clear}
use Rattle.rail_consequence.proofs.Holding.{same_truth}
use Rattle.rail_consequence.proofs.Counts.{item_within, left_at, left_none, left_not, one_false, one_few, one_none, one_true, sum_shift, sum_zero, zero_at}

module _ (f : ℕ → ℕ) (n t : ℕ) (lt : t < n) where
  abbrev others : ℕ → ℕ
  others u = cond (eqb u t) 0 (f u)

  split : sum_below f n ≡ sum_below others n + f t
  split =
      omega (
        arith,
        sum_shift f others n t 0 (f t) lt (omega (arith, cond-true (eqb t t) 0 (f t) (eq-eqb t t refl)))
            (λ i ne. sym (cond-false (eqb i t) 0 (f i) (ne_eqb i t ne))),
      )

  -- a sum that is one of its items has no others
  pub sum_own : sum_below f n ≡ f t → (u : ℕ) → u < n → u ≢ t → f u ≡ 0
  sum_own alone u below ne = sym (cond-false (eqb u t) 0 (f u) (ne_eqb u t ne)) ∙ zero_at others n u (omega (arith, split, alone)) below

  pub sum_alone : ((u : ℕ) → u < n → u ≢ t → f u ≡ 0) → sum_below f n ≡ f t
  sum_alone none = omega (arith, split, sum_zero others n (λ i below. ⊎_elim (λ same. cond-true (eqb i t) 0 (f i) (eq-eqb i t same)) (λ ne. cond-false (eqb i t) 0 (f i) (ne_eqb i t ne) ∙ none i below ne) (cases_eq i t)))

module _ (plan : Moves) (s : List ℕ) (t : ℕ) (sections : List ℕ) where
  -- no train but this one needs one of the sections for a move that it has left
  abbrev OthersNone : Type 0
  OthersNone = (x u : ℕ) → is_in x sections ≡ true → u < length s → u ≢ t → needs_left plan u (place_of s u) x ≡ false

  pub none_from_clear : IsClear plan s t sections → OthersNone
  none_from_clear clear x u is below ne =
      left_none plan u (place_of s u) x (λ i low from last.
      let inside : is_inside plan s u ≡ true = inside_from plan s u low (omega arith) in
      apart_at sections (plan.claim u i) x (apart_sym (plan.claim u i) sections (clear u i ne inside from last)) is)

  pub clear_from_none : OthersNone → ((u : ℕ) → is_inside plan s u ≡ true → u < length s) → IsClear plan s t sections
  clear_from_none none listed u i ne inside from below =
      apart_from (plan.claim u i) sections (λ x needed.
      ⊎_elim
      (λ is.
      absurd (false≢true (sym (left_not plan u (place_of s u) x i (none x u is (listed u inside) ne) (inside_parts plan s u inside).0 from below) ∙ needed)))
      (λ out. out)
      (cases_Bool (is_in x sections)))

-- a train that goes on to a place needs each section on which it stands there
pub own_needed : (plan : Moves) (s : List ℕ) (t place x : ℕ) → is_valid plan ≡ true → t < plan.trains → 0 < place_of s t → place_of s t < place → place ≤ plan.moves t
    → is_in x (stand plan t place) ≡ true → needs_left plan t (place_of s t) x ≡ true
own_needed plan s t zero x valid known low ahead within is = absurd (omega arith)
own_needed plan s t (suc m) x valid known low ahead within is = left_at plan t (place_of s t) x m low (omega arith) (omega arith) (stand_needed plan t m x valid known is)

module _ (plan : Moves) (s : List ℕ) (counts : Columns) (t : ℕ) (sections : List ℕ) (counted : IsCounted plan s counts) (listed : t < length s) where
  abbrev needy : ℕ → ℕ → ℕ
  needy x u = one_if (needs_left plan u (place_of s u) x)

  -- where the train itself needs the sections, and none of them is counted more than once, no other needs one
  once_none : ((x : ℕ) → is_in x sections ≡ true → needs_left plan t (place_of s t) x ≡ true) → ((x : ℕ) → is_in x sections ≡ true → count_of counts x ≤ 1) → OthersNone plan s t sections
  once_none own once x u is below ne =
      one_none (needs_left plan u (place_of s u) x)
      (sum_own (needy x) (length s) t listed
      (omega (arith, counted x, once x is, item_within (needy x) (length s) t listed, one_true (needs_left plan t (place_of s t) x) (own x is)))
      u below ne)

  -- and where no other does, none is counted more than once
  none_once : OthersNone plan s t sections → (x : ℕ) → is_in x sections ≡ true → count_of counts x ≤ 1
  none_once none x is =
      omega (
        arith,
        counted x,
        sum_alone (needy x) (length s) t listed (λ u below ne. one_false (needs_left plan u (place_of s u) x) (none x u is below ne)),
        one_few (needs_left plan t (place_of s t) x),
      )

-- so a leg of a train inside is safe exactly where no section on which it stands then is counted more than once
pub safe_at : (plan : Moves) (s : List ℕ) (counts : Columns) (t place : ℕ) (b : Bool) → IsCounted plan s counts → t < length s → is_valid plan ≡ true → t < plan.trains
    → 0 < place_of s t → place_of s t < place → place ≤ plan.moves t
    → (b ≡ true → (x : ℕ) → is_in x (stand plan t place) ≡ true → count_of counts x ≤ 1)
    → (b ≡ false → (x : ℕ) × (is_in x (stand plan t place) ≡ true) × (1 < count_of counts x))
    → b ≡ is_safe plan s (record { train = t; place = place })
safe_at plan s counts t place b counted listed valid known low ahead within once more =
    let sections : List ℕ = stand plan t place in
    let leg : Leg = record { train = t; place = place } in
    same_truth b (is_safe plan s leg)
    (λ yes.
    safe_from_clear plan s leg
    (clear_from_none plan s t sections
    (once_none plan s counts t sections counted listed (λ x is. own_needed plan s t place x valid known low ahead within is) (once yes))
    (λ u inside. inside_listed plan s u inside)))
    (λ safe.
    ⊎_elim
    (λ yes. yes)
    (λ no.
    let twice = more no in
    absurd (omega (arith, twice.2, none_once plan s counts t sections counted listed (none_from_clear plan s t sections (clear_from_safe plan s leg safe)) twice.0 twice.1)))
    (cases_Bool b))
