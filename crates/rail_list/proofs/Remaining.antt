-- Where the repaired list doesn't complete, somebody is inside after the move, so that a fresh list isn't empty.
use Rattle.std.proofs.Common.{◌≡◌, ◌≢◌, ℕ, suc, ◌-◌, ◌<◌, ◌≤◌, true, false, ◌&&◌, eqb, ltb, List, [], ◌∷◌, ◌++◌, length, replicate, sym, ap, ◌∙◌, subst, ⊎_elim, arith}
use Rattle.std.proofs.lemmas.Bool.{and_parts, and_from, cases_eq, cases_lt, cond-true, cond-false, lt-ltb, ltb-true, eq-eqb, ne_eqb, not-true, true≢false, false≢true}
use Rattle.std.proofs.lemmas.List.{get_or-set_same}
use Rattle.rail_base.specs.declared.history.Note.{Note}
use Rattle.rail_base.specs.declared.history.Note.TheVariants.{Pulled, Appended, Fresh}
use Rattle.rail_rules.specs.Fronts.{without_first}
use Rattle.rail_rules.specs.Numbers.{any_below}
use Rattle.rail_rules.specs.Moves.{Moves}
use Rattle.rail_rules.specs.Places.{place_of, is_inside, is_legal, after, nobody_inside, completes}
use Rattle.rail_rules.proofs.CallerLemmas.{any_below_from}
use Rattle.rail_place.proofs.CallerLemmas.{inside_listed}
use Rattle.rail_list.proofs.Pulling.{inside_kept}
use Rattle.rail_list.specs.Repairs.{repaired_for, is_repairable_for, IsNoted}

-- where nobody is inside, this train isn't
nobody_is : (plan : Moves) (s : List ℕ) (u : ℕ) → nobody_inside plan s ≡ true → is_inside plan s u ≡ true → false ≡ true
nobody_is plan s u nobody inside =
    sym (not-true (any_below (is_inside plan s) (length s)) nobody)
    ∙ any_below_from (is_inside plan s) (length s) u (inside_listed plan s u inside) inside

-- the list repaired for a train outside, and for one inside
repaired-outside : (plan : Moves) (s list : List ℕ) (t : ℕ) → place_of s t ≡ 0 → repaired_for plan s list t ≡ list ++ replicate (plan.moves t - 1) t
repaired-outside plan s list t out = cond-true (eqb (place_of s t) 0) (list ++ replicate (plan.moves t - 1) t) (without_first t list) (eq-eqb (place_of s t) 0 out)

repaired-inside : (plan : Moves) (s list : List ℕ) (t : ℕ) → 0 < place_of s t → repaired_for plan s list t ≡ without_first t list
repaired-inside plan s list t some =
    let ne : place_of s t ≢ 0 = λ e. omega (arith, e, some) in
    cond-false (eqb (place_of s t) 0) (list ++ replicate (plan.moves t - 1) t) (without_first t list) (ne_eqb (place_of s t) 0 ne)

-- a train that isn't inside after its move has made its last one
made_last : (plan : Moves) (s : List ℕ) (t : ℕ) → t < length s → nobody_inside plan (after s t) ≡ true → plan.moves t ≤ suc (place_of s t)
made_last plan s t lt nobody =
    let here : place_of (after s t) t ≡ suc (place_of s t) = get_or-set_same s t (suc (place_of s t)) 0 lt in
    ⊎_elim
    (λ more. absurd (false≢true (nobody_is plan (after s t) t nobody
    (ap (λ p. ltb 0 p && ltb p (plan.moves t)) here
    ∙ and_from (ltb 0 (suc (place_of s t))) (ltb (suc (place_of s t)) (plan.moves t)) (lt-ltb 0 (suc (place_of s t)) (omega arith)) (lt-ltb (suc (place_of s t)) (plan.moves t) more)))))
    (λ last. last)
    (cases_lt (suc (place_of s t)) (plan.moves t))

-- where nobody is inside after the move, the repaired list completes
pub nobody_left : (plan : Moves) (s list : List ℕ) (t : ℕ) → t < length s → completes plan s list ≡ true → nobody_inside plan (after s t) ≡ true → is_repairable_for plan s list t ≡ true
nobody_left plan s [] t lt done nobody =
    ⊎_elim
    (λ out.
    let none : plan.moves t - 1 ≡ 0 = omega (arith, made_last plan s t lt nobody, out) in
    ap (completes plan (after s t)) (repaired-outside plan s [] t out ∙ ap (λ k. replicate k t) none) ∙ nobody)
    (λ ne. ap (completes plan (after s t)) (repaired-inside plan s [] t (omega (arith, ne))) ∙ nobody)
    (cases_eq (place_of s t) 0)
nobody_left plan s (u ∷ rest) t lt done nobody =
    let parts = and_parts (is_inside plan s u && is_legal plan s u) (completes plan (after s u) rest) done in
    let inside = (and_parts (is_inside plan s u) (is_legal plan s u) parts.0).0 in
    ⊎_elim
    (λ same.
    let P : ℕ → Type 0 = λ k. 0 < place_of s k in
    let some : 0 < place_of s t = subst P same (ltb-true 0 (place_of s u) (and_parts (ltb 0 (place_of s u)) (ltb (place_of s u) (plan.moves u)) inside).0) in
    ap (completes plan (after s t)) (repaired-inside plan s (u ∷ rest) t some ∙ cond-true (eqb u t) rest (u ∷ without_first t rest) (eq-eqb u t same))
    ∙ ap (λ k. completes plan (after s k) rest) (sym same) ∙ parts.1)
    (λ other. absurd (false≢true (nobody_is plan (after s t) u nobody (inside_kept plan s u t other ∙ inside))))
    (cases_eq u t)

-- a list that completes after the move, where the repaired one doesn't, isn't empty
pub fresh_some : (plan : Moves) (s list new : List ℕ) (t : ℕ) → t < length s → completes plan s list ≡ true → is_repairable_for plan s list t ≡ false → completes plan (after s t) new ≡ true → 0 < length new
fresh_some plan s list [] t lt done not_so nobody = absurd (true≢false (sym (nobody_left plan s list t lt done nobody) ∙ not_so))
fresh_some plan s list (u ∷ rest) t lt done not_so fresh = omega arith

-- the list of an admission completes after the move
pub noted_completes : (plan : Moves) (depth : ℕ) (s list : List ℕ) (t : ℕ) (note : Note) (new : List ℕ) → IsNoted plan depth s list t note new → completes plan (after s t) new ≡ true
noted_completes plan depth s list t Pulled new noted = ap (completes plan (after s t)) noted.2 ∙ noted.1
noted_completes plan depth s list t Appended new noted = ap (completes plan (after s t)) noted.2 ∙ noted.1
noted_completes plan depth s list t Fresh new noted = noted.2
