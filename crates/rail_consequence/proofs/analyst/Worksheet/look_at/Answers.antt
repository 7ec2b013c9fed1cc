use Rattle.std.proofs.Common.{sym, ap, ◌∙◌}
use Rattle.std.proofs.lemmas.Bool.{false≢true}
use Rattle.rail_rules.specs.Moves.{Moves}
use Rattle.rail_rules.specs.Places.{is_inside}
use Rattle.rail_place.specs.Tables.{moves_in}
use Rattle.rail_consequence.specs.Workspace.{Work}
use Rattle.rail_consequence.proofs.Legs.{goes_parts}
use Rattle.rail_consequence.proofs.Stopping.{stopped_unsafe}
use Rattle.rail_consequence.proofs.Noting.{note_one, shown_noted, shown_unsafe}
use Rattle.rail_consequence.proofs.analyst.Worksheet.look_at.Goals as goal

pub returns-in-Stopped-clause-noted : goal.returns-in-Stopped-clause-noted
returns-in-Stopped-clause-noted g c =
    let plan : Moves = moves_in c.args.moves.now in
    let s = c.args.self.now.places.positions in
    let new = c.set.new.self in
    note_one plan s c.args.notes.now new c.args.train c.in-Stopped.stop c.requires.noted (shown_noted plan s new.fell c.args.train c.in-Stopped.stop c.requires.ready.made.valid c.in-Stopped.ensures)
    c.set.ensures.here c.set.ensures.others c.set.ensures.fell c.set.ensures.has_fallen

pub returns-then-is_stopped-clause-none : goal.returns-then-is_stopped-clause-none
returns-then-is_stopped-clause-none g c =
    let plan : Moves = moves_in c.args.moves.now in
    let s = c.args.self.now.places.positions in
    let t = c.args.train in
    λ _ p is.
    let stop = c.is_stopped.ensures c.if-is_stopped.true (goes_parts plan s (record { train = t; place = p }) is).inside in
    stopped_unsafe plan s t stop.0 p stop.2 is

pub returns-then-not-stands_inside-clause-none : goal.returns-then-not-stands_inside-clause-none
returns-then-not-stands_inside-clause-none g c =
    let plan : Moves = moves_in c.args.moves.now in
    let s = c.args.self.now.places.positions in
    let t = c.args.train in
    let out = sym c.if-not-stands_inside.true ∙ c.stands_inside.ensures ∙ ap (λ (w : Work). is_inside plan w.places.positions t) c.self.view_is in
    λ _ p is. absurd (false≢true (out ∙ (goes_parts plan s (record { train = t; place = p }) is).inside))

pub returns-then-not-stands_inside-clause-stopped : goal.returns-then-not-stands_inside-clause-stopped
returns-then-not-stands_inside-clause-stopped g c = λ x inside.
    absurd (false≢true (sym c.if-not-stands_inside.true ∙ c.stands_inside.ensures ∙ ap (λ (w : Work). is_inside (moves_in c.args.moves.now) w.places.positions c.args.train) c.self.view_is ∙ inside))

pub look-requires-clause-inside : goal.look-requires-clause-inside
look-requires-clause-inside g c =
    sym (ap (λ (w : Work). is_inside (moves_in c.args.moves.now) w.places.positions c.args.train) c.self.view_is) ∙ sym c.stands_inside.ensures ∙ c.if-not-stands_inside.false

pub returns-in-Stopped-clause-none : goal.returns-in-Stopped-clause-none
returns-in-Stopped-clause-none g c = λ _. shown_unsafe (moves_in c.args.moves.now) c.args.self.now.places.positions c.args.train c.in-Stopped.stop c.in-Stopped.ensures
