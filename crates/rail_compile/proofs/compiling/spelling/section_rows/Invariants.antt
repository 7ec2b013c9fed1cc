use Rattle.std.proofs.Common.{◌≡◌, true, map, take}
use Rattle.std.specs.List.{list_all}
use Rattle.rail_compile.specs.Itineraries.{section_row}
use Rattle.rail_compile.specs.RowTypes.{is_named_row}
use Rattle.rail_compile.proofs.compiling.spelling.section_rows.Given as goal

abbrev pub invariant-loop-section : goal.invariant-loop-section
invariant-loop-section l = record {
  rows : l.rows.items ≡ map section_row (take l.section-index l.sections);
  named : list_all is_named_row l.rows.items ≡ true;
}
