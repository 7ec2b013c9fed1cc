-- How many entries a list that completes has of each train: as many as the train has moves left.
use Rattle.std.proofs.Common.{◌≡◌, ◌≢◌, ℕ, zero, suc, ◌+◌, ◌<◌, ◌≤◌, true, false, ◌&&◌, eqb, List, [], ◌∷◌, drop, refl, sym, ap, ◌∙◌, subst, ⊎_elim, arith}
use Rattle.std.proofs.lemmas.Bool.{and_parts, cases_eq, cases_lt, cases_Bool, cond-true, cond-false, eq-eqb, ne_eqb, false≢true}
use Rattle.std.proofs.lemmas.List.{get_or-set_same}
use Rattle.rail_rules.specs.Moves.{Moves}
use Rattle.rail_rules.specs.Places.{place_of, is_inside, is_legal, after, completes}
use Rattle.rail_place.proofs.CallerLemmas.{inside_listed}
use Rattle.rail_consequence.specs.Needs.{times}
use Rattle.rail_consequence.proofs.CallerLemmas.{inside_from, inside_parts, nobody_at, times-cons}
use Rattle.rail_list.proofs.Pulling.{place_kept, inside_kept}

pub times-same : (u : ℕ) (rest : List ℕ) → times u (u ∷ rest) ≡ suc (times u rest)
times-same u rest = omega (arith, times-cons u u rest, cond-true {A = ℕ} (eqb u u) 1 0 (eq-eqb u u refl))

pub times-other : (u v : ℕ) (rest : List ℕ) → v ≢ u → times u (v ∷ rest) ≡ times u rest
times-other u v rest ne = omega (arith, times-cons u v rest, cond-false {A = ℕ} (eqb v u) 1 0 (ne_eqb v u ne))

-- a train that isn't inside has no entry
pub none_left : (plan : Moves) (s list : List ℕ) (u : ℕ) → completes plan s list ≡ true → is_inside plan s u ≡ false → times u list ≡ 0
none_left plan s [] u done out = refl
none_left plan s (v ∷ rest) u done out =
    let parts = and_parts (is_inside plan s v && is_legal plan s v) (completes plan (after s v) rest) done in
    let inside = (and_parts (is_inside plan s v) (is_legal plan s v) parts.0).0 in
    ⊎_elim
    (λ same. absurd (false≢true (sym out ∙ ap (is_inside plan s) (sym same) ∙ inside)))
    (λ other. times-other u v rest other ∙ none_left plan (after s v) rest u parts.1 (inside_kept plan s u v (λ e. other (sym e)) ∙ out))
    (cases_eq v u)

-- a train inside has an entry for each of its moves left
pub entries_left : (plan : Moves) (s list : List ℕ) (u : ℕ) → completes plan s list ≡ true → is_inside plan s u ≡ true → place_of s u + times u list ≡ plan.moves u
entries_left plan s [] u done inside = absurd (false≢true (sym (nobody_at plan s u done) ∙ inside))
entries_left plan s (v ∷ rest) u done inside =
    let parts = and_parts (is_inside plan s v && is_legal plan s v) (completes plan (after s v) rest) done in
    ⊎_elim
    (λ same.
    let P : ℕ → Type 0 = λ k. completes plan (after s k) rest ≡ true in
    let later : completes plan (after s u) rest ≡ true = subst P same parts.1 in
    let here : place_of (after s u) u ≡ suc (place_of s u) = get_or-set_same s u (suc (place_of s u)) 0 (inside_listed plan s u inside) in
    let count : times u (v ∷ rest) ≡ suc (times u rest) = ap (λ k. times u (k ∷ rest)) same ∙ times-same u rest in
    ⊎_elim
    (λ still. omega (arith, here, count, entries_left plan (after s u) rest u later still))
    (λ gone.
    let last : plan.moves u ≤ suc (place_of s u) =
    ⊎_elim
    (λ more. absurd (false≢true (sym gone ∙ inside_from plan (after s u) u (omega (arith, here)) (omega (arith, here, more)))))
    (λ past. past)
    (cases_lt (suc (place_of s u)) (plan.moves u)) in
    omega (arith, count, last, (inside_parts plan s u inside).1, none_left plan (after s u) rest u later gone))
    (cases_Bool (is_inside plan (after s u) u)))
    (λ other.
    let ne : u ≢ v = λ e. other (sym e) in
    omega (arith, times-other u v rest other, place_kept s u v ne, entries_left plan (after s v) rest u parts.1 (inside_kept plan s u v ne ∙ inside)))
    (cases_eq v u)

-- a train that has an entry is inside
pub entry_inside : (plan : Moves) (s list : List ℕ) (u : ℕ) → completes plan s list ≡ true → 0 < times u list → is_inside plan s u ≡ true
entry_inside plan s list u done some =
    ⊎_elim
    (λ inside. inside)
    (λ out. absurd (omega (arith, some, none_left plan s list u done out)))
    (cases_Bool (is_inside plan s u))

-- a train has no more entries than moves
pub entries_fit : (plan : Moves) (s list : List ℕ) (u : ℕ) → completes plan s list ≡ true → times u list ≤ plan.moves u
entries_fit plan s list u done =
    ⊎_elim
    (λ inside. omega (arith, entries_left plan s list u done inside))
    (λ out. omega (arith, none_left plan s list u done out))
    (cases_Bool (is_inside plan s u))

-- the entries of a train from an index on
pub times_drop : (i u : ℕ) (list : List ℕ) → times u (drop i list) ≤ times u list
times_drop zero u list = omega arith
times_drop (suc i) u [] = omega arith
times_drop (suc i) u (v ∷ rest) = omega (arith, times_drop i u rest, times-cons u v rest)
