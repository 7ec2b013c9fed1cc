use Rattle.std.proofs.Common.{◌≡◌, ◌<◌, ◌+◌, ◌++◌, Bool, ℕ, true, ltb, List, length, get_or, sym, ap, ◌∙◌, subst, arith}
use Rattle.std.specs.List.{list_all}
use Rattle.std.proofs.lemmas.Bool.{ltb-true}
use Rattle.std.proofs.lemmas.List.{get_or-append-add, length-append}
use Rattle.rail_rules.proofs.CallerLemmas.{list_all_get, move_in_range}
use Rattle.rail_state.proofs.train.overlap_behind.Goals as goal

pub returns-clause-known : goal.returns-clause-known
returns-clause-known c = λ k d lt.
    let row = c.move_row.result.now in
    let n = length c.args.plant.now.tables.sections in
    let test : ℕ → Bool = λ x. ltb x n in
    let P : List ℕ → Type 0 = λ xs. get_or xs k d < n in
    let all : list_all test (row.sections ++ row.overlap) ≡ true = (move_in_range n row c.move_row.ensures.fine).known in
    let index : length row.sections + k < length (row.sections ++ row.overlap) = omega (arith, lt, ap length c.as_slice.ensures, length-append row.sections row.overlap) in
    subst P (sym c.as_slice.ensures)
    (ltb-true (get_or row.overlap k d) n (ap test (sym (get_or-append-add row.sections row.overlap k d)) ∙ list_all_get test (row.sections ++ row.overlap) (length row.sections + k) d all index))
