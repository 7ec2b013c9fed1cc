use Rattle.std.proofs.Common.{◌≡◌, ℕ, suc, ◌+◌, ◌<◌, Bool, true, false, ◌&&◌, ltb, List, [], ◌∷◌, length, get_or, sym, ap, ◌∙◌, ⊎_elim, arith}
use Rattle.std.proofs.lemmas.Bool.{and_from, lt-ltb, cond-true, not_from_false, eqb-false, cases_lt}
use Rattle.std.proofs.lemmas.List.{get_or_read}
use Rattle.std.specs.List.{list_any, list_all}
use Rattle.rail_rules.specs.Moves.{Moves, stand, is_valid_move}
use Rattle.rail_rules.specs.Numbers.{is_in, are_apart}
use Rattle.rail_place.specs.Tables.{moves_in, row_lists}
use Rattle.rail_tests_calls.proofs.plants.move_is_valid.Goals as goal

valid_move : (need stands : List (List ℕ)) (m : ℕ) (standing needed next : List ℕ) → m + 1 < length need
    → standing ≡ get_or stands m [] → needed ≡ get_or need m [] → next ≡ get_or need (m + 1) []
    → 0 < length standing → list_all (λ x. is_in x needed) standing ≡ true
    → list_any (λ x. is_in x standing) next ≡ false
    → is_valid_move (moves_in (row_lists need [] stands ∷ [])) 0 m ≡ true
valid_move need stands m standing needed next more at_m at_need at_next some within apart =
    let plan : Moves = moves_in (row_lists need [] stands ∷ []) in
    let same : stand plan 0 (suc m) ≡ standing = cond-true (ltb (suc m) (length need)) (get_or stands m []) [] (lt-ltb (suc m) (length need) (omega arith)) ∙ sym at_m in
    let one : m + 1 ≡ suc m = omega arith in
    let there : get_or need (suc m) [] ≡ next = ap (λ k. get_or need k []) (sym one) ∙ sym at_next in
    let test : List ℕ → Bool = λ xs. ltb 0 (length xs) && list_all (λ x. is_in x (get_or need m [])) xs && are_apart (get_or need (suc m) []) xs in
    ap test same
    ∙ and_from (ltb 0 (length standing) && list_all (λ x. is_in x (get_or need m [])) standing) (are_apart (get_or need (suc m) []) standing)
    (and_from (ltb 0 (length standing)) (list_all (λ x. is_in x (get_or need m [])) standing) (lt-ltb 0 (length standing) some) (ap (λ ys. list_all (λ x. is_in x ys) standing) (sym at_need) ∙ within))
    (ap (λ ys. are_apart ys standing) there ∙ not_from_false (list_any (λ x. is_in x standing) next) apart)

pub returns : goal.returns
returns c =
    let need = c.args.need.now in
    let stands = c.args.stand.now in
    let m = c.args.made in
    let standing = c.as_slice-standing.result.now in
    let ne = eqb-false (length standing) 0 (sym c.is_empty.ensures ∙ c.if-is_empty.false) in
    let some : 0 < length standing = ⊎_elim (λ lt. lt) (λ le. absurd (ne (omega arith))) (cases_lt 0 (length standing)) in
    λ all. valid_move need stands m standing c.as_slice-2.result.now c.as_slice.result.now c.requires
    (c.as_slice-standing.ensures ∙ get_or_read stands m c.index-stand-made.result (omega arith) c.index-stand-made.is [])
    (c.as_slice-2.ensures ∙ get_or_read need m c.index-need-made-2.result (omega arith) c.index-need-made-2.is [])
    (c.as_slice.ensures ∙ get_or_read need (m + 1) c.index-need-made.result (omega arith) c.index-need-made.is [])
    some
    (sym c.all_in.ensures ∙ all)
    (sym c.share_one.ensures ∙ c.if-share_one.false)
