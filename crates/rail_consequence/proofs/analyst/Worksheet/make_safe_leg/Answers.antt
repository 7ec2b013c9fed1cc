use Rattle.std.proofs.Common.{ℕ, ◌<◌, List, length, refl, sym, ap, ◌∙◌, subst, arith}
use Rattle.std.proofs.lemmas.Bool.{false≢true}
use Rattle.rail_rules.specs.Moves.{Moves}
use Rattle.rail_rules.specs.Analysis.{Leg, moves_left}
use Rattle.rail_rules.specs.Places.{is_inside}
use Rattle.rail_rules.proofs.CallerLemmas.{state_parts}
use Rattle.rail_place.specs.Tables.{moves_in}
use Rattle.rail_consequence.specs.Cores.{IsAhead}
use Rattle.rail_consequence.specs.Workspace.{Work}
use Rattle.rail_consequence.proofs.Legs.{goes_parts}
use Rattle.rail_consequence.proofs.Played.{fewer_at}
use Rattle.rail_consequence.proofs.Walks.{leg_finds}
use Rattle.rail_consequence.proofs.Safe.{ahead_leg}
use Rattle.rail_consequence.proofs.Stopping.{stopped_unsafe}
use Rattle.rail_consequence.proofs.Noting.{note_one, shown_noted, shown_unsafe}
use Rattle.rail_consequence.proofs.analyst.Worksheet.make_safe_leg.Goals as goal

pub returns-then-is_stopped-clause-none : goal.returns-then-is_stopped-clause-none
returns-then-is_stopped-clause-none g c =
    let plan : Moves = moves_in c.args.moves.now in
    let s = c.args.self.now.places.positions in
    let t = c.args.train in
    λ _. (
      record { list = refl; positions = refl },
      λ p is.
          let stop = c.is_stopped.ensures c.if-is_stopped.true (goes_parts plan s (record { train = t; place = p }) is).inside in
          stopped_unsafe plan s t stop.0 p stop.2 is,
    )

pub returns-then-not-stands_inside-clause-none : goal.returns-then-not-stands_inside-clause-none
returns-then-not-stands_inside-clause-none g c =
    let plan : Moves = moves_in c.args.moves.now in
    let s = c.args.self.now.places.positions in
    let t = c.args.train in
    let out = sym c.if-not-stands_inside.true ∙ c.stands_inside.ensures ∙ ap (λ (w : Work). is_inside plan w.places.positions t) c.self.view_is in
    λ _. (
      record { list = refl; positions = refl },
      λ p is. absurd (false≢true (out ∙ (goes_parts plan s (record { train = t; place = p }) is).inside)),
    )

pub returns-then-not-stands_inside-clause-stopped : goal.returns-then-not-stands_inside-clause-stopped
returns-then-not-stands_inside-clause-stopped g c = λ _ x inside.
    absurd (false≢true (sym c.if-not-stands_inside.true ∙ c.stands_inside.ensures ∙ ap (λ (w : Work). is_inside (moves_in c.args.moves.now) w.places.positions c.args.train) c.self.view_is ∙ inside))

pub look-requires-clause-inside : goal.look-requires-clause-inside
look-requires-clause-inside g c =
    sym (ap (λ (w : Work). is_inside (moves_in c.args.moves.now) w.places.positions c.args.train) c.self.view_is) ∙ sym c.stands_inside.ensures ∙ c.if-not-stands_inside.false

pub returns-in-Stopped-clause-none : goal.returns-in-Stopped-clause-none
returns-in-Stopped-clause-none g c = λ _. (record { list = refl; positions = refl }, shown_unsafe (moves_in c.args.moves.now) c.args.self.now.places.positions c.args.train c.in-Stopped.stop c.in-Stopped.ensures)

pub returns-in-Stopped-clause-noted : goal.returns-in-Stopped-clause-noted
returns-in-Stopped-clause-noted g c =
    let plan : Moves = moves_in c.args.moves.now in
    let s = c.args.self.now.places.positions in
    let new = c.set.new.self in
    note_one plan s c.args.notes.now new c.args.train c.in-Stopped.stop c.requires.noted (shown_noted plan s new.fell c.args.train c.in-Stopped.stop c.requires.ready.made.valid c.in-Stopped.ensures)
    c.set.ensures.here c.set.ensures.others c.set.ensures.fell c.set.ensures.has_fallen

pub returns-in-Leads-clause-same : goal.returns-in-Leads-clause-same
returns-in-Leads-clause-same g c =
    let plan : Moves = moves_in c.args.moves.now in
    let s = c.args.self.now.places.positions in
    let leg : Leg = record { train = c.args.train; place = c.in-Leads.place } in
    λ k. leg_finds plan k s c.go_to.new.self.places.positions leg c.in-Leads.ensures.0 c.in-Leads.ensures.1 c.go_to.ensures.positions

pub returns-in-Leads-clause-fewer : goal.returns-in-Leads-clause-fewer
returns-in-Leads-clause-fewer g c =
    let plan : Moves = moves_in c.args.moves.now in
    let s = c.args.self.now.places.positions in
    let t = c.args.train in
    let listed : t < length s = omega (arith, c.requires.train, (state_parts plan s c.requires.ready.made.valid).long) in
    let goes = goes_parts plan s (record { train = t; place = c.in-Leads.place }) c.in-Leads.ensures.0 in
    λ _. omega (arith, ap (moves_left plan) c.go_to.ensures.positions, fewer_at plan s t c.in-Leads.place listed goes.ahead goes.within)

pub returns-in-Leads-clause-ahead : goal.returns-in-Leads-clause-ahead
returns-in-Leads-clause-ahead g c =
    let plan : Moves = moves_in c.args.moves.now in
    let s = c.args.self.now.places.positions in
    let leg : Leg = record { train = c.args.train; place = c.in-Leads.place } in
    λ start ahead.
    let P : List ℕ → Type 0 = λ r. IsAhead plan start r in
    subst P (sym c.go_to.ensures.positions) (ahead_leg plan start s leg ahead c.in-Leads.ensures.0 c.in-Leads.ensures.1)
