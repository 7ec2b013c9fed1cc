-- With nobody inside, an entering train completes alone.
use Rattle.std.proofs.Common.{◌≡◌, ℕ, zero, suc, ◌+◌, ◌-◌, ◌<◌, Bool, true, false, not, ◌&&◌, ltb, List, [], length, set, replicate, refl, sym, ap, ◌∙◌, subst, ⊎_elim, arith}
use Rattle.std.specs.List.{list_any}
use Rattle.std.proofs.lemmas.Bool.{cases_eq, cases_lt, false≢true, and_parts, and_from, and_right, cond-false, not-true, not_from_false, le-ltb, lt-ltb, and_cases}
use Rattle.std.proofs.lemmas.List.{get_or-set_same, get_or-set_other, get_or_past, set-set}
use Rattle.rail_rules.specs.Numbers.{is_in, any_below, all_below, are_apart}
use Rattle.rail_rules.specs.Moves.{Moves, stand, is_valid_move, is_valid}
use Rattle.rail_rules.specs.Places.{place_of, is_inside, holds, has_holder, is_legal, after, nobody_inside, completes}
use Rattle.rail_rules.proofs.CallerLemmas.{any_below_at, any_below_none, all_below_at, list_any_none, apart_at}

-- who isn't inside holds nothing
pub outside_holds_nothing : (plan : Moves) (s : List ℕ) (u x : ℕ) → is_inside plan s u ≡ false → holds plan s u x ≡ false
outside_holds_nothing plan s u x outside = at_place (place_of s u) outside
  where
    at_place : (p : ℕ) → (ltb 0 p && ltb p (plan.moves u)) ≡ false → is_in x (stand plan u p) ≡ false
    at_place zero h = refl
    at_place (suc m) h =
        let P : List ℕ → Type 0 = λ xs. is_in x xs ≡ false in
        ⊎_elim
        (λ low. absurd (false≢true (sym low ∙ lt-ltb 0 (suc m) (omega arith))))
        (λ high. subst P (sym (cond-false (ltb (suc m) (plan.moves u)) (plan.standing u m) [] high)) refl)
        (and_cases (ltb 0 (suc m)) (ltb (suc m) (plan.moves u)) h)

pub nobody_there : (plan : Moves) (s : List ℕ) (u : ℕ) → nobody_inside plan s ≡ true → is_inside plan s u ≡ false
nobody_there plan s u nobody =
    ⊎_elim
    (λ lt. any_below_at (is_inside plan s) (length s) u (not-true (any_below (is_inside plan s) (length s)) nobody) lt)
    (λ past.
    let P : ℕ → Type 0 = λ p. (ltb 0 p && ltb p (plan.moves u)) ≡ false in
    subst P (sym (get_or_past s u 0 past)) refl)
    (cases_lt u (length s))

-- so nothing is held where nobody is inside
pub nothing_held : (plan : Moves) (s : List ℕ) (x : ℕ) → nobody_inside plan s ≡ true → has_holder plan s x ≡ false
nothing_held plan s x nobody = any_below_none (λ u. holds plan s u x) (length s) (λ u _. outside_holds_nothing plan s u x (nobody_there plan s u nobody))

-- a train needs nothing of what it stands on
apart_from_itself : (plan : Moves) (t m : ℕ) → is_valid plan ≡ true → t < plan.trains → suc m < plan.moves t → are_apart (plan.claim t (suc m)) (stand plan t (suc m)) ≡ true
apart_from_itself plan t m valid lt room =
    let row_test : ℕ → Bool = λ u. all_below (is_valid_move plan u) (plan.moves u - 1) in
    let row = all_below_at row_test plan.trains t valid lt in
    (and_parts _ (are_apart (plan.claim t (suc m)) (stand plan t (suc m))) (all_below_at (is_valid_move plan t) (plan.moves t - 1) m row (omega arith))).1

module _ (plan : Moves) (valid : is_valid plan ≡ true) (s : List ℕ) (nobody : nobody_inside plan s ≡ true) (t : ℕ) (known : t < plan.trains) (listed : t < length s) where
  here : (p : ℕ) → place_of (set s t p) t ≡ p
  here p = get_or-set_same s t p 0 listed

  others : (p u x : ℕ) → (u ≡ t → ⊥) → holds plan (set s t p) u x ≡ false
  others p u x other =
      let P : ℕ → Type 0 = λ q. is_in x (stand plan u q) ≡ false in
      subst P (sym (get_or-set_other s t u p 0 other)) (outside_holds_nothing plan s u x (nobody_there plan s u nobody))

  -- alone the train goes on to its exit
  on_alone : (left m : ℕ) → suc m + left ≡ plan.moves t → completes plan (set s t (suc m)) (replicate left t) ≡ true
  on_alone zero m end =
      not_from_false (any_below (is_inside plan (set s t (suc m))) (length (set s t (suc m))))
      (any_below_none (is_inside plan (set s t (suc m))) (length (set s t (suc m))) (λ u _.
      ⊎_elim
      (λ same.
      let P : ℕ → Type 0 = λ v. (ltb 0 (place_of (set s t (suc m)) v) && ltb (place_of (set s t (suc m)) v) (plan.moves v)) ≡ false in
      let Q : ℕ → Type 0 = λ p. (ltb 0 p && ltb p (plan.moves t)) ≡ false in
      subst P (sym same) (subst Q (sym (here (suc m))) (and_right (ltb 0 (suc m)) (ltb (suc m) (plan.moves t)) (le-ltb (suc m) (plan.moves t) (omega arith)))))
      (λ other.
      let Q : ℕ → Type 0 = λ p. (ltb 0 p && ltb p (plan.moves u)) ≡ false in
      subst Q (sym (get_or-set_other s t u (suc m) 0 other)) (nobody_there plan s u nobody))
      (cases_eq u t)))
  on_alone (suc left) m end =
      let s1 : List ℕ = set s t (suc m) in
      let room : suc m < plan.moves t = omega arith in
      let P : ℕ → Type 0 = λ p. (ltb 0 p && ltb p (plan.moves t)) ≡ true in
      let inside : is_inside plan s1 t ≡ true = subst P (sym (here (suc m))) (and_from (ltb 0 (suc m)) (ltb (suc m) (plan.moves t)) (lt-ltb 0 (suc m) (omega arith)) (lt-ltb (suc m) (plan.moves t) room)) in
      let free : (x : ℕ) → is_in x (plan.claim t (suc m)) ≡ true → has_holder plan s1 x ≡ false = λ x is.
      any_below_none (λ u. holds plan s1 u x) (length s1) (λ u _.
      ⊎_elim
      (λ same.
      let Q : ℕ → Type 0 = λ v. holds plan s1 v x ≡ false in
      let R : ℕ → Type 0 = λ p. is_in x (stand plan t p) ≡ false in
      subst Q (sym same) (subst R (sym (here (suc m))) (apart_at (plan.claim t (suc m)) (stand plan t (suc m)) x (apart_from_itself plan t m valid known room) is)))
      (λ other. others (suc m) u x other)
      (cases_eq u t)) in
      let U : ℕ → Type 0 = λ p. (ltb p (plan.moves t) && not (list_any (has_holder plan s1) (plan.claim t p))) ≡ true in
      let legal : is_legal plan s1 t ≡ true = subst U (sym (here (suc m)))
      (and_from (ltb (suc m) (plan.moves t)) (not (list_any (has_holder plan s1) (plan.claim t (suc m)))) (lt-ltb (suc m) (plan.moves t) room)
      (not_from_false (list_any (has_holder plan s1) (plan.claim t (suc m))) (list_any_none (has_holder plan s1) (plan.claim t (suc m)) free))) in
      let next : after s1 t ≡ set s t (suc (suc m)) = ap (λ p. set s1 t (suc p)) (here (suc m)) ∙ set-set s t (suc m) (suc (suc m)) in
      let V : List ℕ → Type 0 = λ r. completes plan r (replicate left t) ≡ true in
      and_from (is_inside plan s1 t && is_legal plan s1 t) (completes plan (after s1 t) (replicate left t))
      (and_from (is_inside plan s1 t) (is_legal plan s1 t) inside legal)
      (subst V (sym next) (on_alone left (suc m) (omega arith)))

  pub enters_alone : place_of s t ≡ 0 → 0 < plan.moves t → completes plan (after s t) (replicate (plan.moves t - 1) t) ≡ true
  enters_alone outside some =
      let V : List ℕ → Type 0 = λ r. completes plan r (replicate (plan.moves t - 1) t) ≡ true in
      subst V (sym (ap (λ p. set s t (suc p)) outside)) (on_alone (plan.moves t - 1) 0 (omega arith))
