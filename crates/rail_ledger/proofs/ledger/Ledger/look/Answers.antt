use Rattle.rail_state.specs.TrainStates.{bar_by}
use Rattle.rail_ledger.proofs.Commands.{waiting_left}
use Rattle.rail_ledger.proofs.Looking.{first_found, looked, next_found, no_more_untried, unbarred_found}
use Rattle.rail_ledger.proofs.ledger.Ledger.look.Goals as goal

pub look-requires-clause-moves : goal.look-requires-clause-moves
look-requires-clause-moves c = waiting_left c.requires.running.front c.args.self.now c.requires.running.at

pub returns-clause-at : goal.returns-clause-at
returns-clause-at c = λ front at. looked front c.args.self.now at c.look.new.self c.look.ensures.length c.look.ensures.trains

pub returns-clause-next : goal.returns-clause-next
returns-clause-next c = next_found c.args.self.now c.look.new.self c.look.ensures.length c.look.ensures.trains c.look.result c.look.ensures.first

pub returns-clause-fewer : goal.returns-clause-fewer
returns-clause-fewer c = no_more_untried c.args.self.now.input.plant (bar_by c.args.self.now.orders c.args.self.now.state.holders) c.args.self.now.state.trains c.look.new.self c.look.ensures.length c.look.ensures.trains

pub returns-clause-first : goal.returns-clause-first
returns-clause-first c = first_found c.look.new.self c.look.result c.look.ensures.first

pub returns-clause-unbarred : goal.returns-clause-unbarred
returns-clause-unbarred c = unbarred_found c.args.self.now c.look.new.self c.look.ensures.length c.look.ensures.trains
