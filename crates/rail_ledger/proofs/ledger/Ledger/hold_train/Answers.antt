use Rattle.std.proofs.Common.{ℕ, ◌∷◌, ap, sym, subst, arith}
use Rattle.rail_rules.specs.Fronts.{Line, is_hold}
use Rattle.rail_state.specs.TrainStates.{state_of}
use Rattle.rail_state.proofs.CallerLemmas.{cause_known}
use Rattle.rail_ledger.specs.declared.ledger.Ledger.{Ledger}
use Rattle.rail_ledger.specs.Ledgers.{IsAt, listed_in}
use Rattle.rail_ledger.proofs.Making.{deferred_soon}
use Rattle.rail_ledger.proofs.Room.{place_fits, place_within, room_left}
use Rattle.rail_ledger.proofs.Holding.{held_at, known_why}
use Rattle.rail_ledger.proofs.ledger.Ledger.hold_train.Goals as goal

pub hold-what-requires-clause-place : goal.hold-what-requires-clause-place
hold-what-requires-clause-place c = omega (
  arith,
  place_fits c.requires.running.front c.args.self.now c.requires.running.at c.args.train (omega (arith, c.requires.train, c.requires.running.at.rep.times.many)),
)

pub hold-what-requires-clause-known : goal.hold-what-requires-clause-known
hold-what-requires-clause-known c = omega (arith, c.requires.train, c.requires.running.at.rep.times.many)

pub hold-what-requires-clause-within : goal.hold-what-requires-clause-within
hold-what-requires-clause-within c = place_within c.requires.running.front c.args.self.now c.requires.running.at c.args.train (omega (arith, c.requires.train, c.requires.running.at.rep.times.many))

pub hold-what-requires-clause-time : goal.hold-what-requires-clause-time
hold-what-requires-clause-time c = λ at held. deferred_soon c.requires.running.front c.args.self.now c.requires.running.at c.args.train at (omega (arith, c.requires.train, c.requires.running.at.rep.times.many)) held

pub hold-what-requires-clause-room : goal.hold-what-requires-clause-room
hold-what-requires-clause-room c = omega (arith, room_left c.requires.running.front c.args.self.now c.requires.running.at)

pub returns-clause-line : goal.returns-clause-line
returns-clause-line c = λ front at.
    let old : Ledger = c.args.self.now in
    let t : ℕ = c.args.train in
    let known = known_why (state_of old.state.trains t).known (cause_known (state_of old.state.trains t) c.requires.lacks) in
    subst (λ (line : Line). IsAt (line ∷ front) (record old { state = c.hold-what.new.self }))
    (λ i. record { entry = record { at = sym c.hold-what.ensures.line.time i; what = sym (c.hold-what.ensures.what known.0 known.1) i }; trains = listed_in (sym c.requires.unlisted i) old.kept.trains old.remaining.items })
    (held_at front old at c.requires.going (c.requires.deciding front at) c.requires.known t c.requires.train c.requires.lacks c.requires.first known.0 known.1 c.hold-what.new.self c.hold-what.ensures.line c.hold-what.ensures.room)

pub returns-clause-kind : goal.returns-clause-kind
returns-clause-kind c =
    let old : Ledger = c.args.self.now in
    let known = known_why (state_of old.state.trains c.args.train).known (cause_known (state_of old.state.trains c.args.train) c.requires.lacks) in
    (ap is_hold (c.hold-what.ensures.what known.0 known.1), c.requires.unlisted)
