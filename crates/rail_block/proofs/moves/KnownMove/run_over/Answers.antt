use Rattle.std.proofs.Common.{◌-◌, ◌<◌, arith}
use Rattle.rail_block.proofs.Limits.{few_steps}
use Rattle.rail_rules.specs.Plant.{moves}
use Rattle.rail_block.proofs.moves.KnownMove.run_over.Goals as goal

pub returns-clause-short : goal.returns-clause-short
returns-clause-short c =
    let known = c.args.self.now in
    let within : known.place - 1 < moves known.plant.now known.train = omega (arith, known.first, known.last) in
    omega (arith, c.loop-index.invariant.short, c.requires, few_steps known)
