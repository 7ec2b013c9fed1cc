use Rattle.rail_ledger.specs.Inputs.{input_in}
use Rattle.rail_ledger.specs.Ledgers.{line_in}
use Rattle.rail_laws_events.proofs.CallerLemmas.{told_tells}
use Rattle.rail_engine.proofs.Continuing.{gone_on}
use Rattle.rail_engine.proofs.round.go_on.Goals as goal

pub tell_desk-requires : goal.tell_desk-requires
tell_desk-requires g c = λ k told.
    let front = c.requires.running.front in
    let at = c.go_on-entry.ensures.line front c.requires.running.at in
    (told_tells (input_in c.go_on-entry.new.self.input) (line_in c.go_on-entry.new.self c.go_on-entry.result) front k at.rep.lawful told).counted k told

pub returns-clause-run : goal.returns-clause-run
returns-clause-run g c =
    gone_on c.args.ledger.now c.go_on-entry.new.self c.go_on-entry.result c.deref.result.now _ _ c.go_on-entry.ensures.input c.go_on-entry.ensures.line c.go_on-entry.ensures.kind c.deref.ensures.value c.tell_desk.ensures
