-- In a list that completes, who holds a section that another train claims next stands before that train.
use Rattle.std.proofs.Common.{◌≡◌, ℕ, zero, suc, ◌<◌, ◌≤◌, Bool, true, false, not, ◌&&◌, cond, eqb, ltb, List, [], ◌∷◌, length, refl, sym, ◌∙◌, subst, ⊎_elim, arith}
use Rattle.std.specs.List.{list_any}
use Rattle.std.proofs.lemmas.Bool.{cases_Bool, cases_eq, cases_lt, false≢true, and_parts, eq-eqb, ne_eqb, lt-ltb, le-ltb, not-true, cond-true, cond-false}
use Rattle.std.proofs.lemmas.List.{get_or-set_other}
use Rattle.rail_rules.specs.Numbers.{is_in, sum_below}
use Rattle.rail_rules.specs.Moves.{Moves, stand}
use Rattle.rail_rules.specs.Places.{place_of, is_inside, holds, has_holder, is_legal, after, completes}
use Rattle.rail_rules.proofs.CallerLemmas.{any_below_from, list_any_at, sum_below-lt}
use Rattle.rail_laws_list.proofs.CallerLemmas.{inside_listed}
use Rattle.rail_laws_end.proofs.Alone.{nobody_there, outside_holds_nothing}

-- how many entries of the list stand before the train's first one
pub first_at : ℕ → List ℕ → ℕ
first_at t [] = 0
first_at t (u ∷ rest) = cond (eqb u t) 0 (suc (first_at t rest))

-- who holds a section is inside
pub holder_inside : (plan : Moves) (s : List ℕ) (u x : ℕ) → holds plan s u x ≡ true → is_inside plan s u ≡ true
holder_inside plan s u x held =
    ⊎_elim (λ inside. inside) (λ outside. absurd (false≢true (sym (outside_holds_nothing plan s u x outside) ∙ held))) (cases_Bool (is_inside plan s u))

-- who holds a section that the train claims next stands before the train in a list that completes
pub holder_earlier : (plan : Moves) (list s : List ℕ) (t u x : ℕ) → completes plan s list ≡ true → is_in x (plan.claim t (place_of s t)) ≡ true → holds plan s u x ≡ true → first_at u list < first_at t list
unfolding first_at
holder_earlier plan [] s t u x done claims held = absurd (false≢true (sym (nobody_there plan s u done) ∙ holder_inside plan s u x held))
holder_earlier plan (v ∷ rest) s t u x done claims held =
    let parts = and_parts (is_inside plan s v && is_legal plan s v) (completes plan (after s v) rest) done in
    let first = and_parts (is_inside plan s v) (is_legal plan s v) parts.0 in
    ⊎_elim
    (λ mine.
    let P : ℕ → Type 0 = λ k. is_legal plan s k ≡ true in
    let legal = and_parts (ltb (place_of s t) (plan.moves t)) (not (list_any (has_holder plan s) (plan.claim t (place_of s t)))) (subst P mine first.1) in
    let free = list_any_at (has_holder plan s) (plan.claim t (place_of s t)) x (not-true (list_any (has_holder plan s) (plan.claim t (place_of s t))) legal.1) claims in
    absurd (false≢true (sym free ∙ any_below_from (λ w. holds plan s w x) (length s) u (inside_listed plan s u (holder_inside plan s u x held)) held)))
    (λ other.
    let t_later : first_at t (v ∷ rest) ≡ suc (first_at t rest) = cond-false (eqb v t) 0 (suc (first_at t rest)) (ne_eqb v t other) in
    ⊎_elim
    (λ holder.
    let u_first : first_at u (v ∷ rest) ≡ 0 = cond-true (eqb v u) 0 (suc (first_at u rest)) (eq-eqb v u holder) in
    omega (arith, t_later, u_first))
    (λ third.
    let u_later : first_at u (v ∷ rest) ≡ suc (first_at u rest) = cond-false (eqb v u) 0 (suc (first_at u rest)) (ne_eqb v u third) in
    let t_stays : place_of (after s v) t ≡ place_of s t = get_or-set_other s v t (suc (place_of s v)) 0 (λ e. other (sym e)) in
    let u_stays : place_of (after s v) u ≡ place_of s u = get_or-set_other s v u (suc (place_of s v)) 0 (λ e. third (sym e)) in
    let Q : ℕ → Type 0 = λ p. is_in x (plan.claim t p) ≡ true in
    let R : ℕ → Type 0 = λ p. is_in x (stand plan u p) ≡ true in
    let behind = holder_earlier plan rest (after s v) t u x parts.1 (subst Q (sym t_stays) claims) (subst R (sym u_stays) held) in
    omega (arith, t_later, u_later, behind))
    (cases_eq v u))
    (cases_eq v t)

-- how many trains stand in the list before the train's first entry
pub rank : ℕ → List ℕ → ℕ → ℕ
rank n list t = sum_below (λ v. cond (ltb (first_at v list) (first_at t list)) 1 0) n

one_or_none : (a b c : ℕ) → b ≤ c → cond (ltb a b) 1 0 ≤ cond (ltb a c) 1 0
one_or_none a b c le =
    ⊎_elim
    (λ lt. omega (arith, cond-true {A = ℕ} (ltb a b) 1 0 (lt-ltb a b lt), cond-true {A = ℕ} (ltb a c) 1 0 (lt-ltb a c (omega (arith, lt, le)))))
    (λ past. omega (arith, cond-false {A = ℕ} (ltb a b) 1 0 (le-ltb a b past)))
    (cases_lt a b)

-- who stands earlier has a lower rank
pub rank_falls : (n : ℕ) (list : List ℕ) (t u : ℕ) → u < n → first_at u list < first_at t list → rank n list u < rank n list t
unfolding rank
rank_falls n list t u known earlier =
    sum_below-lt (λ v. cond (ltb (first_at v list) (first_at u list)) 1 0) (λ v. cond (ltb (first_at v list) (first_at t list)) 1 0) n u known
    (λ v _. one_or_none (first_at v list) (first_at u list) (first_at t list) (omega (arith, earlier)))
    (omega (
      arith,
      cond-false {A = ℕ} (ltb (first_at u list) (first_at u list)) 1 0 (le-ltb (first_at u list) (first_at u list) (omega arith)),
      cond-true {A = ℕ} (ltb (first_at u list) (first_at t list)) 1 0 (lt-ltb (first_at u list) (first_at t list) earlier),
    ))

ones : (n : ℕ) → sum_below (λ _. 1) n ≡ n
ones zero = refl
ones (suc n) = omega (arith, ones n)

-- a rank is below the number of trains
pub rank_below : (n : ℕ) (list : List ℕ) (t : ℕ) → t < n → rank n list t < n
unfolding rank
rank_below n list t known =
    let few : sum_below (λ v. cond (ltb (first_at v list) (first_at t list)) 1 0) n < sum_below (λ _. 1) n =
    sum_below-lt (λ v. cond (ltb (first_at v list) (first_at t list)) 1 0) (λ _. 1) n t known
    (λ v _. at_most (ltb (first_at v list) (first_at t list)))
    (omega (arith, cond-false {A = ℕ} (ltb (first_at t list) (first_at t list)) 1 0 (le-ltb (first_at t list) (first_at t list) (omega arith)))) in
    omega (arith, few, ones n)
  where
    at_most : (b : Bool) → cond b 1 0 ≤ 1
    at_most true = omega arith
    at_most false = omega arith
