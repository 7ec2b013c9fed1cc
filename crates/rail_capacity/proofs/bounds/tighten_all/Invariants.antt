use Rattle.std.proofs.Common.{◌≡◌, take}
use Rattle.std.specs.List.{fold}
use Rattle.rail_capacity.specs.Bounds.{tighter_table}
use Rattle.rail_capacity.proofs.bounds.tighten_all.Given as goal

abbrev pub invariant-loop-gap : goal.invariant-loop-gap
invariant-loop-gap l = record {
  tightened_by : l.table ≡ fold tighter_table l.initial.table (take l.gap-index l.gaps);
}
