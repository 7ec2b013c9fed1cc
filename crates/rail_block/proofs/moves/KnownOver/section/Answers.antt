use Rattle.std.proofs.Common.{◌≡◌, ◌-◌, ◌<◌, Bool, ℕ, true, ltb, length, get_or, sym, ap, ◌∙◌, arith}
use Rattle.std.specs.List.{list_all}
use Rattle.std.proofs.lemmas.Bool.{and_parts, ltb-true}
use Rattle.std.proofs.lemmas.List.Folds.{list_all-append}
use Rattle.rail_base.specs.declared.plant.MoveRow.{MoveRow}
use Rattle.rail_rules.proofs.CallerLemmas.{claims_are, list_all_get, move_in_range}
use Rattle.rail_block.proofs.moves.KnownOver.section.Goals as goal

pub returns-clause-known : goal.returns-clause-known
returns-clause-known c =
    let own = c.args.self.now in
    let plant = own.of.now.plant.now in
    let t = own.of.now.train in
    let m = own.of.now.place - 1 in
    let n = length plant.tables.sections in
    let test : ℕ → Bool = λ x. ltb x n in
    let row = c.row-row.result.now in
    let all : list_all test row.overlap ≡ true =
    (and_parts (list_all test row.sections) (list_all test row.overlap) (sym (list_all-append test row.sections row.overlap) ∙ (move_in_range n row c.row-row.ensures.fine).known)).1 in
    let x = c.index-as_slice-from.result in
    let i = c.from.result - length c.as_slice-needed.result.now - 1 in
    let within : i < length row.overlap =
    omega (arith, own.behind, own.last, claims_are plant t m, ap (λ (r : MoveRow). length r.sections) c.row-row.ensures.row, ap (λ (r : MoveRow). length r.overlap) c.row-row.ensures.row, c.from.ensures, ap length c.as_slice-needed.ensures) in
    let item : x ≡ get_or row.overlap i x = c.index-as_slice-from.is ∙ ap (λ ys. get_or ys i x) c.as_slice.ensures in
    omega (arith, item, ltb-true (get_or row.overlap i x) n (list_all_get test row.overlap i x all within))
