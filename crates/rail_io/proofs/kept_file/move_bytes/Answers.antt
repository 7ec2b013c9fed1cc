-- The bytes moved stand at the front of `into`, and those behind them stay.
use Rattle.std.proofs.Common.{arith}
use Rattle.std.proofs.lemmas.Grind.{common_steps}
use Rattle.std.proofs.lemmas.List.{drop_min, take_rest, length-drop, length-take}
use Rattle.rail_io.proofs.Moved.{moves_next}
use Rattle.rail_io.proofs.kept_file.move_bytes.Goals as goal

pub returns-clause-moves : goal.returns-clause-moves
returns-clause-moves c = moves_next c.args.bytes.now c.copy_from_slice.new.self _ c.args.from c.min-count.result (let e = simp (length-take, length-drop) at c.min-count.ensures in omega arith) (grind (arith, common_steps, drop_min, take_rest))
