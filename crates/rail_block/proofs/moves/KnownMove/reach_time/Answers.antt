use Rattle.std.proofs.Common.{◌∙◌}
use Rattle.rail_block.proofs.Placing.{enter-at}
use Rattle.rail_block.proofs.moves.KnownMove.reach_time.Goals as goal

pub returns-clause-time : goal.returns-clause-time
returns-clause-time c = λ adms h. c.head_time.ensures.time ∙ enter-at c.args.self.now.plant.now c.args.self.now.train adms c.args.self.now.place c.args.times.now c.args.count c.args.self.now.first h
