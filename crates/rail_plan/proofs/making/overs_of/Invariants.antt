use Rattle.std.proofs.Common.{◌≡◌, map, take}
use Rattle.rail_base.specs.declared.plant.MoveRow.{MoveRow}
use Rattle.rail_plan.proofs.making.overs_of.Given as goal

abbrev pub invariant-loop-row : goal.invariant-loop-row
invariant-loop-row l = l.overs ≡ map (λ (row : MoveRow). row.overlap) (take l.row-index l.moves)
