use Rattle.std.proofs.Common.{◌∷◌, sym, ap, ◌∙◌, subst, arith}
use Rattle.std.proofs.lemmas.Bool.{false≢true}
use Rattle.std.proofs.lemmas.Option.{slice_get_within}
use Rattle.rail_rules.specs.Fronts.{Line}
use Rattle.rail_ledger.specs.declared.ledger.Ledger.{Ledger}
use Rattle.rail_ledger.specs.Ledgers.{IsAt, listed_in}
use Rattle.rail_ledger.proofs.Commands.{given, idle_unknown, it, waiting_left}
use Rattle.rail_ledger.proofs.Going.{happened_at, ready_now}
use Rattle.rail_ledger.proofs.ledger.Ledger.next_event.Goals as goal

pub tell-what-requires-clause-first : goal.tell-what-requires-clause-first
tell-what-requires-clause-first c =
    let command = it c.requires.running.front c.args.self.now c.requires.running.at c.requires.going c.requires.may c.in_ok-event.event c.pop.new.self c.in_ok-event.ensures.next c.in_ok-event.ensures.spare
    c.in_ok-event.ensures.least (c.is_command.ensures.0 c.if-is_command.true) in
    omega (arith, command.numbered)

pub tell-what-requires-clause-listed : goal.tell-what-requires-clause-listed
tell-what-requires-clause-listed c =
    let command = it c.requires.running.front c.args.self.now c.requires.running.at c.requires.going c.requires.may c.in_ok-event.event c.pop.new.self c.in_ok-event.ensures.next c.in_ok-event.ensures.spare
    c.in_ok-event.ensures.least (c.is_command.ensures.0 c.if-is_command.true) in
    omega (arith, command.numbered, slice_get_within c.args.self.now.input.commands.items command.index command.command command.listed)

pub tell-what-requires-clause-moves : goal.tell-what-requires-clause-moves
tell-what-requires-clause-moves c = waiting_left c.requires.running.front c.args.self.now c.requires.running.at

pub tell-what-requires-clause-waits : goal.tell-what-requires-clause-waits
tell-what-requires-clause-waits c = λ t idle. idle_unknown c.requires.running.front c.args.self.now c.requires.running.at t idle

pub returns-then-is_command-clause-input : goal.returns-then-is_command-clause-input
returns-then-is_command-clause-input c = (given c.requires.running.front c.args.self.now c.requires.running.at c.requires.going c.requires.may c.in_ok-event.event c.pop.new.self c.in_ok-event.ensures.next
    c.in_ok-event.ensures.spare c.in_ok-event.ensures.least (c.is_command.ensures.0 c.if-is_command.true) c.tell-what.new.self c.tell-what.result c.requires.unlisted c.tell-what.ensures.untold c.tell-what.ensures.told).0

pub returns-then-is_command-clause-kind : goal.returns-then-is_command-clause-kind
returns-then-is_command-clause-kind c = (given c.requires.running.front c.args.self.now c.requires.running.at c.requires.going c.requires.may c.in_ok-event.event c.pop.new.self c.in_ok-event.ensures.next
    c.in_ok-event.ensures.spare c.in_ok-event.ensures.least (c.is_command.ensures.0 c.if-is_command.true) c.tell-what.new.self c.tell-what.result c.requires.unlisted c.tell-what.ensures.untold c.tell-what.ensures.told).1

pub returns-then-is_command-clause-line : goal.returns-then-is_command-clause-line
returns-then-is_command-clause-line c = λ front at. (given front c.args.self.now at c.requires.going c.requires.may c.in_ok-event.event c.pop.new.self c.in_ok-event.ensures.next
    c.in_ok-event.ensures.spare c.in_ok-event.ensures.least (c.is_command.ensures.0 c.if-is_command.true) c.tell-what.new.self c.tell-what.result c.requires.unlisted c.tell-what.ensures.untold c.tell-what.ensures.told).2

pub happen-what-requires-clause-ready : goal.happen-what-requires-clause-ready
happen-what-requires-clause-ready c = ready_now c.requires.running.front c.args.self.now c.requires.running.at c.requires.going c.requires.may c.in_ok-event.event c.pop.new.self.events c.in_ok-event.ensures.next
    c.in_ok-event.ensures.least (λ is. false≢true (sym c.if-is_command.false ∙ c.is_command.ensures.1 is)) c.pop.new.self

pub returns-clause-line : goal.returns-clause-line
returns-clause-line c = λ front at.
    let old : Ledger = c.args.self.now in
    let after = c.happen-what.new.self in
    let said = c.happen-what.ensures in
    subst (λ (line : Line). IsAt (line ∷ front) (record old { state = after }))
    (λ i. record { entry = record { at = c.in_ok-event.event.at; what = sym said.what i }; trains = listed_in (sym c.requires.unlisted i) old.kept.trains old.remaining.items })
    (happened_at front old at c.requires.going c.requires.may c.in_ok-event.event c.pop.new.self.events c.in_ok-event.ensures.next c.in_ok-event.ensures.least
    (λ is. false≢true (sym c.if-is_command.false ∙ c.is_command.ensures.1 is)) after
    (ap (λ q. q.events) said.queue) (ap (λ q. q.spare) said.queue ∙ c.in_ok-event.ensures.spare) said.holders said.many said.trains said.instant said.going said.settled)
