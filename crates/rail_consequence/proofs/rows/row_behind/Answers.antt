use Rattle.std.proofs.Common.{◌≡◌, ℕ, ◌+◌, ◌<◌, List, [], get_or, map, ap, ◌∙◌, sym, subst, arith}
use Rattle.std.proofs.lemmas.List.{get_or-map}
use Rattle.rail_place.specs.Tables.{moves_in}
use Rattle.rail_consequence.specs.Needs.{IsSetRow}
use Rattle.rail_consequence.specs.declared.rows.PlaceSets.{PlaceSets}
use Rattle.rail_consequence.proofs.SetLemmas.{row_alike}
use Rattle.rail_consequence.proofs.SharedRows.{Shared, sets_of}
use Rattle.rail_consequence.proofs.rows.row_behind.Goals as goal

pub returns-then-first-train : goal.returns-then-first-train
returns-then-first-train c =
    let table = c.args.moves.now in
    let t : ℕ = c.args.train in
    let first : ℕ = c.first_like-first.result in
    let rows : List Shared = c.args.rows.now in
    let row : Shared = c.index-rows-from.result in
    let before : first < t = omega arith in
    let number : first ≡ c.from.result = omega (arith, c.from.ensures, c.first.view_is) in
    let sets : get_or (map sets_of rows) first [] ≡ c.in_ok-clone.field-0.value =
    ap (λ k. get_or (map sets_of rows) k []) number
    ∙ get_or-map sets_of rows c.from.result row [] (omega (arith, number, before, c.requires.rows))
    ∙ ap sets_of (sym c.index-rows-from.is) ∙ sym c.in_ok-clone.ensures.cases in
    let P : List PlaceSets → Type 0 = λ r. IsSetRow (moves_in table) first ((moves_in table).moves first + 1) r in
    row_alike table first t c.in_ok-clone.field-0.value c.first_like-first.ensures.same (subst P sets (c.requires.told first before))
