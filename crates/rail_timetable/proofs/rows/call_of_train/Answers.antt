use Rattle.std.proofs.Common.{◌≡◌, Some, rules}
use Rattle.rail_timetable.specs.declared.rows.PlacedCall.{PlacedCall}
use Rattle.rail_timetable.specs.declared.records.Fields.{Fields}
use Rattle.rail_timetable.specs.Fields.{call_of_train}
use Rattle.rail_timetable.proofs.Standing.{of_train}
use Rattle.rail_timetable.proofs.rows.call_of_train.Goals as goal

pub returns-clause-placed : goal.returns-clause-placed
returns-clause-placed c =
    let fields : Fields = c.args.fields.now in
    let placed : PlacedCall = record { train = c.args.train; place = c.in_ok-place.place; call = c.in_ok-call.call } in
    let spelled : call_of_train c.args.plant.now.tables fields.place.now fields.arrival.now fields.departure.now fields.dwell.now c.args.train ≡ Some placed = search rules in
    of_train c.a_word_spells_an_input_time.ensures c.args.plant.now c.last_place-last.ensures.accepted c.args.train fields.place.now fields.arrival.now fields.departure.now fields.dwell.now placed c.requires spelled
