use Rattle.rail_engine.proofs.Beginning.{begun_stands}
use Rattle.rail_engine.proofs.engine.Engine.begin.Goals as goal

pub returns-clause-begun : goal.returns-clause-begun
returns-clause-begun g c = begun_stands c.args.plant c.args.commands.items _ c.in_ok-input.input c.in_ok-ledger.ledger c.requires.accepted c.in_ok-input.ensures c.in_ok-ledger.ensures.input c.in_ok-ledger.ensures.begun
