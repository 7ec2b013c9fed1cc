use Rattle.std.proofs.Common.{ℕ, ◌+◌, List, map, ap, ◌∙◌, sym, subst, arith}
use Rattle.std.proofs.lemmas.List.{map_push}
use Rattle.rail_rules.specs.Moves.{Moves}
use Rattle.rail_place.specs.Tables.{moves_in}
use Rattle.rail_consequence.specs.Needs.{AreRows}
use Rattle.rail_consequence.specs.declared.rows.PlaceSets.{PlaceSets}
use Rattle.rail_consequence.proofs.SetLemmas.{rows_more}
use Rattle.rail_consequence.proofs.SharedRows.{Shared, sets_of}
use Rattle.rail_consequence.proofs.rows.Rows.new.Goals as goal

pub loop-number-preserved : goal.loop-number-preserved
loop-number-preserved c =
    let plan : Moves = moves_in c.args.moves.now in
    let n : ℕ = c.loop-number.number in
    let P : List (List PlaceSets) → Type 0 = λ rs. AreRows plan (n + 1) (record { width = c.max-width.result; rows = rs }) in
    let rows : List Shared = c.loop-number.rows.items in
    record {
      rows = subst P (sym (map_push sets_of rows c.in_ok-row.row) ∙ ap (map sets_of) (sym c.push_reserved.ensures.items))
          (rows_more plan n c.loop-number.width c.max-width.result (map sets_of rows) (sets_of c.in_ok-row.row) c.loop-number.invariant.rows c.in_ok-row.ensures
          (λ i x is. omega (arith, c.width.ensures.all i x is, c.max-width.ensures)) (omega (arith, c.max-width.ensures)) (omega (arith, c.max-width.ensures, c.width.ensures.few, c.loop-number.invariant.rows.wide)));
      room = omega (arith, c.push_reserved.ensures.capacity, c.loop-number.invariant.room);
    }
