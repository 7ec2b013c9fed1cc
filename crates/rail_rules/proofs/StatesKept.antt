-- A legal move from a valid state leads to a valid state.
use Rattle.std.proofs.Common.{◌≡◌, ℕ, suc, ◌-◌, ◌<◌, ◌≤◌, Bool, true, not, ◌&&◌, cond, eqb, ltb, leb, List, [], length, set, sym, ap, ◌∙◌, subst, ⊎_elim, arith}
use Rattle.std.proofs.lemmas.Bool.{and_parts, and_from, cases_lt, cases_eq, cases_Bool, false≢true, ltb-true, le-leb, eqb-true, eq-eqb, not-true, leb-true}
use Rattle.std.proofs.lemmas.List.{get_or-set_same, get_or-set_other, length-set, set_past}
use Rattle.std.specs.List.{list_any, list_all}
use Rattle.rail_rules.specs.Numbers.{all_below, is_in, are_apart}
use Rattle.rail_rules.specs.Moves.{Moves, stand, is_valid_move, is_valid}
use Rattle.rail_rules.specs.Places.{place_of, holds, has_holder, is_legal, after, is_valid_state}
use Rattle.rail_rules.proofs.Below.{all_below_at, all_below_from, any_below_at}
use Rattle.rail_rules.proofs.Members.{list_any_at, list_all_at, apart_from, apart_sym}

-- the parts of a valid state
pub record IsState (plan : Moves) (s : List ℕ) : Type 0 where
  pub long : length s ≡ plan.trains
  pub within : (t : ℕ) → t < length s → place_of s t ≤ plan.moves t
  pub apart : (t u : ℕ) → t < length s → u < t → are_apart (stand plan t (place_of s t)) (stand plan u (place_of s u)) ≡ true

pub state_parts : (plan : Moves) (s : List ℕ) → is_valid_state plan s ≡ true → IsState plan s
state_parts plan s h =
    let within_test : ℕ → Bool = λ t. leb (place_of s t) (plan.moves t) in
    let pair_test : ℕ → ℕ → Bool = λ t u. are_apart (stand plan t (place_of s t)) (stand plan u (place_of s u)) in
    let apart_test : ℕ → Bool = λ t. all_below (pair_test t) t in
    let both = and_parts (eqb (length s) plan.trains && all_below within_test (length s)) (all_below apart_test (length s)) h in
    let first = and_parts (eqb (length s) plan.trains) (all_below within_test (length s)) both.0 in
    record {
      long = eqb-true (length s) plan.trains first.0;
      within = λ t lt. leb-true (place_of s t) (plan.moves t) (all_below_at within_test (length s) t first.1 lt);
      apart = λ t u lt under. all_below_at (pair_test t) t u (all_below_at apart_test (length s) t both.1 lt) under;
    }

pub state_from_parts : (plan : Moves) (s : List ℕ) → IsState plan s → is_valid_state plan s ≡ true
state_from_parts plan s h =
    let within_test : ℕ → Bool = λ t. leb (place_of s t) (plan.moves t) in
    let pair_test : ℕ → ℕ → Bool = λ t u. are_apart (stand plan t (place_of s t)) (stand plan u (place_of s u)) in
    let apart_test : ℕ → Bool = λ t. all_below (pair_test t) t in
    and_from (eqb (length s) plan.trains && all_below within_test (length s)) (all_below apart_test (length s))
    (and_from (eqb (length s) plan.trains) (all_below within_test (length s))
    (eq-eqb (length s) plan.trains h.long)
    (all_below_from within_test (length s) (λ t lt. le-leb (place_of s t) (plan.moves t) (h.within t lt))))
    (all_below_from apart_test (length s) (λ t lt. all_below_from (pair_test t) t (λ u under. h.apart t u lt under)))

-- a train stands on sections that its move needed
pub stand_needed : (plan : Moves) (t p x : ℕ) → is_valid plan ≡ true → t < plan.trains → is_in x (stand plan t (suc p)) ≡ true → is_in x (plan.claim t p) ≡ true
stand_needed plan t p x valid lt is =
    ⊎_elim
    (λ inside.
    let more : suc p < plan.moves t = ltb-true (suc p) (plan.moves t) inside in
    let row_test : ℕ → Bool = λ u. all_below (is_valid_move plan u) (plan.moves u - 1) in
    let row = all_below_at row_test plan.trains t valid lt in
    let move = all_below_at (is_valid_move plan t) (plan.moves t - 1) p row (omega arith) in
    let sections : List ℕ = stand plan t (suc p) in
    let contained : Bool = list_all (λ y. is_in y (plan.claim t p)) sections in
    let front = and_parts (ltb 0 (length sections) && contained) (are_apart (plan.claim t (suc p)) sections) move in
    let parts = and_parts (ltb 0 (length sections)) contained front.0 in
    list_all_at (λ y. is_in y (plan.claim t p)) sections x parts.1 is)
    (λ last.
    let P : Bool → Type 0 = λ b. is_in x (cond b (plan.standing t p) []) ≡ true in
    absurd (false≢true (subst P last is)))
    (cases_Bool (ltb (suc p) (plan.moves t)))

-- after a legal move the train holds nothing that another train holds
moved_apart : (plan : Moves) (s : List ℕ) (t u : ℕ) → is_valid plan ≡ true → IsState plan s → is_legal plan s t ≡ true → t < length s → u < length s → are_apart (stand plan t (suc (place_of s t))) (stand plan u (place_of s u)) ≡ true
moved_apart plan s t u valid h legal lt lu =
    let sections : List ℕ = plan.claim t (place_of s t) in
    let parts = and_parts (ltb (place_of s t) (plan.moves t)) (not (list_any (has_holder plan s) sections)) legal in
    let nobody = not-true (list_any (has_holder plan s) sections) parts.1 in
    apart_from (stand plan t (suc (place_of s t))) (stand plan u (place_of s u)) (λ x is.
    let needed = stand_needed plan t (place_of s t) x valid (omega (arith, h.long)) is in
    any_below_at (λ v. holds plan s v x) (length s) u (list_any_at (has_holder plan s) sections x nobody needed) lu)

moved_state : (plan : Moves) (s : List ℕ) (t : ℕ) → is_valid plan ≡ true → IsState plan s → is_legal plan s t ≡ true → t < length s → IsState plan (after s t)
moved_state plan s t valid h legal lt =
    let next : ℕ = suc (place_of s t) in
    let size : length (set s t next) ≡ length s = length-set s t next in
    let here : place_of (set s t next) t ≡ next = get_or-set_same s t next 0 lt in
    let there : (u : ℕ) → (u ≡ t → ⊥) → place_of (set s t next) u ≡ place_of s u = λ u ne. get_or-set_other s t u next 0 ne in
    let parts = and_parts (ltb (place_of s t) (plan.moves t)) (not (list_any (has_holder plan s) (plan.claim t (place_of s t)))) legal in
    let more : place_of s t < plan.moves t = ltb-true (place_of s t) (plan.moves t) parts.0 in
    record {
      long = size ∙ h.long;
      within = λ u lu. ⊎_elim
          (λ same. let P : ℕ → Type 0 = λ k. place_of (set s t next) k ≤ plan.moves k in subst P (sym same) (omega (arith, here, more)))
          (λ other. omega (arith, there u other, h.within u (omega (arith, size, lu))))
          (cases_eq u t);
      apart = λ u v lu under.
          let fits_u : u < length s = omega (arith, size, lu) in
          let fits_v : v < length s = omega (arith, size, lu, under) in
          ⊎_elim
          (λ u_is. ⊎_elim
          (λ v_is. absurd (omega (arith, u_is, v_is, under)))
          (λ v_other.
          let P : ℕ → Type 0 = λ k. are_apart (stand plan k (place_of (set s t next) k)) (stand plan v (place_of (set s t next) v)) ≡ true in
          subst P (sym u_is) (ap (λ n. are_apart (stand plan t n) (stand plan v (place_of (set s t next) v))) here
          ∙ ap (λ n. are_apart (stand plan t next) (stand plan v n)) (there v v_other)
          ∙ moved_apart plan s t v valid h legal lt fits_v))
          (cases_eq v t))
          (λ u_other. ⊎_elim
          (λ v_is.
          let P : ℕ → Type 0 = λ k. are_apart (stand plan u (place_of (set s t next) u)) (stand plan k (place_of (set s t next) k)) ≡ true in
          subst P (sym v_is) (ap (λ n. are_apart (stand plan u (place_of (set s t next) u)) (stand plan t n)) here
          ∙ ap (λ n. are_apart (stand plan u n) (stand plan t next)) (there u u_other)
          ∙ apart_sym (stand plan t next) (stand plan u (place_of s u)) (moved_apart plan s t u valid h legal lt fits_u)))
          (λ v_other.
          ap (λ n. are_apart (stand plan u n) (stand plan v (place_of (set s t next) v))) (there u u_other)
          ∙ ap (λ n. are_apart (stand plan u (place_of s u)) (stand plan v n)) (there v v_other)
          ∙ h.apart u v fits_u under)
          (cases_eq v t))
          (cases_eq u t);
    }

pub legal_move_kept : (plan : Moves) (s : List ℕ) (t : ℕ) → is_valid plan ≡ true → is_valid_state plan s ≡ true → is_legal plan s t ≡ true → is_valid_state plan (after s t) ≡ true
legal_move_kept plan s t valid state legal =
    ⊎_elim
    (λ lt. state_from_parts plan (after s t) (moved_state plan s t valid (state_parts plan s state) legal lt))
    (λ past. let P : List ℕ → Type 0 = λ r. is_valid_state plan r ≡ true in subst P (sym (set_past s t (suc (place_of s t)) past)) state)
    (cases_lt t (length s))
