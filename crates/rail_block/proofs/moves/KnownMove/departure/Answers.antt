use Rattle.std.proofs.Common.{ℕ, ◌-◌, ◌<◌, Option, ap, arith}
use Rattle.std.specs.Option.{option_map_or}
use Rattle.rail_base.specs.declared.plant.Call.{Call}
use Rattle.rail_rules.specs.Plant.{moves}
use Rattle.rail_block.proofs.Limits.{call_short}
use Rattle.rail_block.proofs.moves.KnownMove.departure.Goals as goal

pub returns-clause-early : goal.returns-clause-early
returns-clause-early c =
    let known = c.args.self.now in
    let plant = known.plant.now in
    let within : known.place - 1 - 1 < moves plant known.train = omega (arith, known.last, c.if-self-eq1.false) in
    let departs = λ (o : Option Call). option_map_or (λ (call : Call). option_map_or (λ (at : ℕ). at) call.departure 0) o 0 in
    omega (arith, c.call_departure.ensures, ap departs c.call.ensures, (call_short plant known.accepted known.train (known.place - 1 - 1) known.known within).departure)
