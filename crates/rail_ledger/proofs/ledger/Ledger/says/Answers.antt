use Rattle.std.proofs.Common.{◌≡◌, ◌+◌, ◌∷◌, drop, true, refl, sym, ◌∙◌, subst, arith}
use Rattle.std.proofs.lemmas.Bool.{false≢true}
use Rattle.std.proofs.lemmas.Option.{slice_get_within}
use Rattle.rail_base.specs.declared.history.What.{What}
use Rattle.rail_queue.specs.Queue.{Queue}
use Rattle.rail_rules.specs.Fronts.{Front, at_time}
use Rattle.rail_rules.specs.Lawful.{is_lawful}
use Rattle.rail_state.specs.Representation.{bare_at}
use Rattle.rail_ledger.specs.Inputs.{input_in}
use Rattle.rail_ledger.specs.Ledgers.{IsAt, IsOther}
use Rattle.rail_ledger.specs.declared.ledger.Ledger.{Ledger}
use Rattle.rail_ledger.proofs.Commands.{command_next, is_listed, it}
use Rattle.rail_ledger.proofs.Going.{event_next, ready_now}
use Rattle.rail_ledger.proofs.ledger.Ledger.says.Goals as goal

-- the queue without its first event
abbrev rest_of : Ledger → Queue
rest_of ledger = record { events = drop 1 ledger.state.queue.events; spare = ledger.state.queue.spare + 1; base = ledger.state.queue.base; slots = ledger.state.queue.slots }

pub says_of-requires-clause-first : goal.says_of-requires-clause-first
says_of-requires-clause-first c =
    let old : Ledger = c.args.self.now in
    let command = it c.requires.running.front old c.requires.running.at c.requires.going c.requires.may c.args.event.now (rest_of old) c.requires.first refl c.requires.least (c.is_command.ensures.0 c.if-is_command.true) in
    omega (arith, command.numbered)

pub says_of-requires-clause-listed : goal.says_of-requires-clause-listed
says_of-requires-clause-listed c =
    let old : Ledger = c.args.self.now in
    let command = it c.requires.running.front old c.requires.running.at c.requires.going c.requires.may c.args.event.now (rest_of old) c.requires.first refl c.requires.least (c.is_command.ensures.0 c.if-is_command.true) in
    omega (arith, command.numbered, slice_get_within old.input.commands.items command.index command.command command.listed)

pub returns-then-is_command : goal.returns-then-is_command
returns-then-is_command c =
    let old : Ledger = c.args.self.now in
    let classed = c.is_command.ensures.0 c.if-is_command.true in
    let next : (front : Front) → IsAt front old → IsOther (at_time c.args.event.now.at c.says_of.result) × (is_lawful (input_in old.input) (bare_at c.args.event.now.at c.says_of.result ∷ front) ≡ true) = λ front at.
    command_next front old at c.requires.going c.requires.may c.args.event.now (rest_of old) c.requires.first refl c.requires.least classed c.says_of.result
    (c.says_of.ensures (it front old at c.requires.going c.requires.may c.args.event.now (rest_of old) c.requires.first refl c.requires.least classed).command
    (is_listed front old at c.requires.going c.requires.may c.args.event.now (rest_of old) c.requires.first refl c.requires.least classed)) in
    record { next = record { kind = (next c.requires.running.front c.requires.running.at).0; lawful = λ front at. (next front at).1 } }

pub says-requires-clause-ready : goal.says-requires-clause-ready
says-requires-clause-ready c =
    let old : Ledger = c.args.self.now in
    ready_now c.requires.running.front old c.requires.running.at c.requires.going c.requires.may c.args.event.now (drop 1 old.state.queue.events) c.requires.first c.requires.least
    (λ is. false≢true (sym c.if-is_command.false ∙ c.is_command.ensures.1 is)) old.state.queue

pub returns : goal.returns
returns c =
    let old : Ledger = c.args.self.now in
    let next : (front : Front) → IsAt front old → IsOther (at_time c.args.event.now.at c.says.result) × (is_lawful (input_in old.input) (bare_at c.args.event.now.at c.says.result ∷ front) ≡ true) = λ front at.
    subst (λ (w : What). IsOther (at_time c.args.event.now.at w) × (is_lawful (input_in old.input) (bare_at c.args.event.now.at w ∷ front) ≡ true)) (sym c.says.ensures)
    (event_next front old at c.requires.going c.requires.may c.args.event.now (drop 1 old.state.queue.events) c.requires.first c.requires.least
    (λ is. false≢true (sym c.if-is_command.false ∙ c.is_command.ensures.1 is))) in
    record { next = record { kind = (next c.requires.running.front c.requires.running.at).0; lawful = λ front at. (next front at).1 } }
