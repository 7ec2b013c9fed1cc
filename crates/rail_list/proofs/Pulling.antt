-- The list without the first entry of a train that has made its move: the entries before that one, and the rest.
use Rattle.std.proofs.Common.{◌≡◌, ◌≢◌, ℕ, suc, ◌<◌, true, ◌&&◌, eqb, ltb, List, [], ◌∷◌, length, get_or, set, refl, sym, ap, ◌∙◌, ⊎_elim, arith}
use Rattle.std.specs.List.{remove}
use Rattle.std.proofs.lemmas.Bool.{and_parts, cases_eq, cond-true, cond-false, eq-eqb, ne_eqb, not-true, false≢true}
use Rattle.std.proofs.lemmas.List.{get_or-set_other, set_comm}
use Rattle.rail_rules.specs.Numbers.{any_below}
use Rattle.rail_rules.specs.Moves.{Moves}
use Rattle.rail_rules.specs.Places.{place_of, is_inside, is_legal, after, completes}
use Rattle.rail_rules.specs.Fronts.{without_first}
use Rattle.rail_rules.proofs.CallerLemmas.{any_below_at}
use Rattle.rail_place.proofs.CallerLemmas.{inside_listed}
use Rattle.rail_list.specs.KeptLists.{before_first}

-- another train's move leaves the train where it is
pub place_kept : (s : List ℕ) (t u : ℕ) → t ≢ u → place_of (after s u) t ≡ place_of s t
place_kept s t u ne = get_or-set_other s u t (suc (place_of s u)) 0 ne

pub inside_kept : (plan : Moves) (s : List ℕ) (t u : ℕ) → t ≢ u → is_inside plan (after s u) t ≡ is_inside plan s t
inside_kept plan s t u ne = ap (λ p. ltb 0 p && ltb p (plan.moves t)) (place_kept s t u ne)

-- moves of two trains lead to one state in either order
pub after_comm : (s : List ℕ) (t u : ℕ) → t ≢ u → after (after s t) u ≡ after (after s u) t
after_comm s t u ne =
    let p : ℕ = suc (place_of s t) in
    let q : ℕ = suc (place_of s u) in
    ap (λ n. set (after s t) u (suc n)) (place_kept s u t (λ e. ne (sym e)))
    ∙ set_comm s t u p q ne
    ∙ ap (λ n. set (after s u) t (suc n)) (sym (place_kept s t u ne))

-- a train that is inside stands in a list that completes
pub first_there : (plan : Moves) (s list : List ℕ) (t : ℕ) → completes plan s list ≡ true → is_inside plan s t ≡ true → length (before_first t list) < length list
first_there plan s [] t done inside = absurd (false≢true (sym (any_below_at (is_inside plan s) (length s) t (not-true (any_below (is_inside plan s) (length s)) done) (inside_listed plan s t inside)) ∙ inside))
first_there plan s (u ∷ rest) t done inside =
    let later = (and_parts (is_inside plan s u && is_legal plan s u) (completes plan (after s u) rest) done).1 in
    ⊎_elim
    (λ same. omega (arith, ap length (cond-true (eqb u t) [] (u ∷ before_first t rest) (eq-eqb u t same))))
    (λ other.
    let rest_there = first_there plan (after s u) rest t later (inside_kept plan s t u (λ e. other (sym e)) ∙ inside) in
    omega (arith, rest_there, ap length (cond-false (eqb u t) [] (u ∷ before_first t rest) (ne_eqb u t other))))
    (cases_eq u t)

-- the first entry of the train
pub first_is : (list : List ℕ) (t : ℕ) → length (before_first t list) < length list → get_or list (length (before_first t list)) 0 ≡ t
first_is [] t there = absurd (omega (arith, there))
first_is (u ∷ rest) t there =
    ⊎_elim
    (λ same. ap (λ xs. get_or (u ∷ rest) (length xs) 0) (cond-true (eqb u t) [] (u ∷ before_first t rest) (eq-eqb u t same)) ∙ same)
    (λ other.
    let before : before_first t (u ∷ rest) ≡ u ∷ before_first t rest = cond-false (eqb u t) [] (u ∷ before_first t rest) (ne_eqb u t other) in
    ap (λ xs. get_or (u ∷ rest) (length xs) 0) before ∙ first_is rest t (omega (arith, there, ap length before)))
    (cases_eq u t)

-- the first entry of the train taken out
pub removed_is : (list : List ℕ) (t : ℕ) → remove list (length (before_first t list)) ≡ without_first t list
removed_is [] t = refl
removed_is (u ∷ rest) t =
    ⊎_elim
    (λ same. ap (λ xs. remove (u ∷ rest) (length xs)) (cond-true (eqb u t) [] (u ∷ before_first t rest) (eq-eqb u t same)) ∙ sym (cond-true (eqb u t) rest (u ∷ without_first t rest) (eq-eqb u t same)))
    (λ other.
    ap (λ xs. remove (u ∷ rest) (length xs)) (cond-false (eqb u t) [] (u ∷ before_first t rest) (ne_eqb u t other))
    ∙ ap (λ xs. u ∷ xs) (removed_is rest t)
    ∙ sym (cond-false (eqb u t) rest (u ∷ without_first t rest) (ne_eqb u t other)))
    (cases_eq u t)
