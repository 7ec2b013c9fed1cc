use Rattle.std.proofs.Common.{◌≡◌, Some, None, sym}
use Rattle.csv.specs.Records.{field_at, fields_of}
use Rattle.csv.proofs.RecordFacts.{field-get}
use Rattle.rail_timetable.proofs.FiveFields.{field_none}
use Rattle.rail_timetable.proofs.records.field.Goals as goal

pub returns-in-Some : goal.returns-in-Some
returns-in-Some c =
    let there : field_at (fields_of c.args.row.now) c.args.index ≡ Some c.in-Some.field.now = sym (rw c.in-Some.is at c.get.ensures.value) in
    sym (field-get (fields_of c.args.row.now) c.args.index c.in-Some.field.now there)

pub returns-in-None : goal.returns-in-None
returns-in-None c =
    let none : field_at (fields_of c.args.row.now) c.args.index ≡ None = sym (rw c.in-None.is at c.get.ensures.value) in
    sym (field_none (fields_of c.args.row.now) c.args.index none)
