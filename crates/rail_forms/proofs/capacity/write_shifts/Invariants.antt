use Rattle.std.proofs.Common.{Ok, take}
use Rattle.std.specs.Prelude.{flat_map}
use Rattle.rail_forms.specs.Capacity.{shift_line}
use Rattle.rail_text.specs.Names.{names_in}
use Rattle.rail_text.specs.Writes.{WritesText}
use Rattle.rail_forms.proofs.capacity.write_shifts.Given as goal

abbrev pub invariant-loop-shift : goal.invariant-loop-shift
invariant-loop-shift g l = WritesText g.O.Sink l.initial.out l.out (flat_map (shift_line (names_in l.names)) (take l.shift-index l.shifts)) (Ok tt)
