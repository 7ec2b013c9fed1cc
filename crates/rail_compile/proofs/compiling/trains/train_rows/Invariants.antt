use Rattle.std.proofs.Common.{◌≡◌, ℕ, ◌+◌, ◌<◌, true, drop, get_or, map, take, None}
use Rattle.std.specs.List.{list_all}
use Rattle.rail_base.specs.FirstRefusals.{first_failing}
use Rattle.rail_scene.specs.declared.scene.SceneTrain.{SceneTrain}
use Rattle.rail_compile.specs.Itineraries.{train_row, with_trains}
use Rattle.rail_compile.specs.Refusals.{train_tests, trains_tests}
use Rattle.rail_compile.specs.RowTypes.{is_typed_row}
use Rattle.rail_compile.proofs.compiling.trains.train_rows.Given as goal

abbrev pub invariant-loop-index : goal.invariant-loop-index
invariant-loop-index l = record {
  passed : first_failing (trains_tests (with_trains l.scene l.trains) (l.index + 1) (drop l.index l.trains)) ≡ first_failing (trains_tests (with_trains l.scene l.trains) 1 l.trains);
  rows : l.rows.items ≡ map (train_row (with_trains l.scene l.trains)) (take l.index l.trains);
  each : (k : ℕ) (before : SceneTrain) → k < l.index → before ≡ get_or l.trains k before → first_failing (train_tests (with_trains l.scene l.trains) (k + 1) before) ≡ None;
  typed : list_all is_typed_row l.rows.items ≡ true;
}
