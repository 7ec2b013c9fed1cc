use Rattle.std.proofs.Common.{◌≡◌, ℕ, suc, ◌+◌, List, ◌∷◌, ◌∙◌, map, drop, drop-cons, sym, ap}
use Rattle.csv.specs.Records.{Row, fields_of}
use Rattle.rail_base.specs.FirstRefusals.{first_failing}
use Rattle.rail_base.proofs.CallerLemmas.{passed_up}
use Rattle.rail_timetable.specs.Timetables.{records_tests}
use Rattle.rail_timetable.proofs.LaterRecords.{refused}
use Rattle.rail_timetable.proofs.timetable.read_records.Goals as goal

pub returns-in_err-read_record-clause-refused : goal.returns-in_err-read_record-clause-refused
returns-in_err-read_record-clause-refused c =
    let row : Row = c.row-item.result in
    let n : ℕ = c.loop-row.number + 1 in
    let later : List Row = drop (suc c.loop-row.row-index) c.args.records.now in
    let left : drop c.loop-row.row-index c.args.records.now ≡ row ∷ later =
    drop-cons c.args.records.now c.loop-row.row-index row c.loop-row-test.true ∙ ap (λ (x : Row). x ∷ later) (sym c.row-item.is) in
    passed_up c.from_residual.result _ _ c.from_residual.ensures.1
    (rw (c.loop-row.invariant.refusals ∙ ap (λ (rows : List Row). first_failing (records_tests c.args.plant.now.tables c.loop-row.calls n (map fields_of rows))) left)
    (refused c.args.plant.now.tables c.loop-row.calls n (fields_of row) (map fields_of later) _ c.in_err-read_record.ensures.refused))
