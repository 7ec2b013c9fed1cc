-- After a move of one train, another train's move stays legal exactly where it needs nothing on which that train then stands.
use Rattle.std.proofs.Common.{◌≡◌, ◌≢◌, ℕ, suc, ◌<◌, true, false, not, ltb, List, length, sym, ap, ◌∙◌, ⊎_elim, arith}
use Rattle.std.proofs.lemmas.Bool.{and_parts, cases_eq, cases_Bool, false≢true, not-true}
use Rattle.std.proofs.lemmas.List.{get_or-set_same, length-set}
use Rattle.std.specs.List.{list_any}
use Rattle.rail_rules.specs.Numbers.{is_in, are_apart}
use Rattle.rail_rules.specs.Moves.{Moves, stand}
use Rattle.rail_rules.specs.Places.{place_of, holds, has_holder, is_legal, after}
use Rattle.rail_rules.proofs.CallerLemmas.{any_below_at, apart_at, apart_from, apart_sym, list_any_at}
use Rattle.rail_consequence.proofs.CallerLemmas.{legal_kept}
use Rattle.rail_list.proofs.Pulling.{place_kept}

-- two lists are apart in either order
apart_turned : (xs ys : List ℕ) → are_apart xs ys ≡ are_apart ys xs
apart_turned xs ys =
    ⊎_elim
    (λ apart. apart ∙ sym (apart_sym xs ys apart))
    (λ meets. ⊎_elim
    (λ apart. absurd (false≢true (sym meets ∙ apart_sym ys xs apart)))
    (λ both. meets ∙ sym both)
    (cases_Bool (are_apart ys xs)))
    (cases_Bool (are_apart xs ys))

still_legal : (plan : Moves) (s : List ℕ) (t u : ℕ) → t < length s → u ≢ t → is_legal plan s u ≡ true
    → are_apart (plan.claim u (place_of s u)) (stand plan t (suc (place_of s t))) ≡ true
    → is_legal plan (after s t) u ≡ true
still_legal plan s t u lt ne legal apart =
    let p : ℕ = suc (place_of s t) in
    let r : List ℕ = after s t in
    legal_kept plan s r u (length-set s t p) (place_kept s u t ne)
    (λ v x needed free.
    ⊎_elim
    (λ is_t.
    ap (λ w. is_in x (stand plan w (place_of r w))) is_t
    ∙ ap (λ k. is_in x (stand plan t k)) (get_or-set_same s t p 0 lt)
    ∙ apart_at (plan.claim u (place_of s u)) (stand plan t p) x apart needed)
    (λ not_t. ap (λ k. is_in x (stand plan v k)) (place_kept s v t not_t) ∙ free)
    (cases_eq v t))
    legal

apart_then : (plan : Moves) (s : List ℕ) (t u : ℕ) → t < length s → u ≢ t → is_legal plan (after s t) u ≡ true
    → are_apart (plan.claim u (place_of s u)) (stand plan t (suc (place_of s t))) ≡ true
apart_then plan s t u lt ne legal =
    let p : ℕ = suc (place_of s t) in
    let r : List ℕ = after s t in
    let needed : List ℕ = plan.claim u (place_of r u) in
    let parts = and_parts (ltb (place_of r u) (plan.moves u)) (not (list_any (has_holder plan r) needed)) legal in
    let nobody = not-true (list_any (has_holder plan r) needed) parts.1 in
    apart_from (plan.claim u (place_of s u)) (stand plan t p) (λ x is.
    let stays : is_in x needed ≡ true = ap (λ k. is_in x (plan.claim u k)) (place_kept s u t ne) ∙ is in
    let free : holds plan r t x ≡ false = any_below_at (λ v. holds plan r v x) (length r) t (list_any_at (has_holder plan r) needed x nobody stays) (omega (arith, length-set s t p, lt)) in
    sym (ap (λ k. is_in x (stand plan t k)) (get_or-set_same s t p 0 lt)) ∙ free)

pub legal_beside : (plan : Moves) (s : List ℕ) (t u : ℕ) → t < length s → u ≢ t → is_legal plan s u ≡ true
    → is_legal plan (after s t) u ≡ are_apart (stand plan t (suc (place_of s t))) (plan.claim u (place_of s u))
legal_beside plan s t u lt ne legal =
    let needed : List ℕ = plan.claim u (place_of s u) in
    let standing : List ℕ = stand plan t (suc (place_of s t)) in
    ⊎_elim
    (λ apart. still_legal plan s t u lt ne legal apart ∙ sym apart ∙ apart_turned needed standing)
    (λ meets. ⊎_elim
    (λ still. absurd (false≢true (sym meets ∙ apart_then plan s t u lt ne still)))
    (λ barred. barred ∙ sym meets ∙ apart_turned needed standing)
    (cases_Bool (is_legal plan (after s t) u)))
    (cases_Bool (are_apart needed standing))
