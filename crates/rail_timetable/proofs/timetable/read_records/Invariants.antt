use Rattle.std.proofs.Common.{◌≡◌, ◌+◌, map, drop}
use Rattle.csv.specs.Records.{fields_of}
use Rattle.rail_base.specs.FirstRefusals.{first_failing}
use Rattle.rail_plan.specs.CallTables.{AreCallsFor}
use Rattle.rail_timetable.specs.Timetables.{records_tests, with_records}
use Rattle.rail_timetable.proofs.timetable.read_records.Given as goal

abbrev pub invariant-loop-row : goal.invariant-loop-row
invariant-loop-row l = record {
  made : AreCallsFor l.plant.tables l.calls;
  numbered : l.number ≡ l.row-index + 1;
  calls : with_records l.plant.tables l.initial.calls (map fields_of l.records) ≡ with_records l.plant.tables l.calls (map fields_of (drop l.row-index l.records));
  refusals : first_failing (records_tests l.plant.tables l.initial.calls 2 (map fields_of l.records)) ≡ first_failing (records_tests l.plant.tables l.calls (l.number + 1) (map fields_of (drop l.row-index l.records)));
}
