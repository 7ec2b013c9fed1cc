use Rattle.std.proofs.Common.{◌≡◌, suc, ◌-◌, ◌<◌, max, Option, length, sym, ap, ◌∙◌, arith}
use Rattle.std.specs.Option.{option_map_or}
use Rattle.rail_base.specs.declared.plant.Call.{Call}
use Rattle.rail_base.specs.declared.plant.MoveRow.{MoveRow}
use Rattle.rail_base.specs.declared.plant.TurnRow.{TurnRow}
use Rattle.rail_rules.specs.Plant.{dwell, moves}
use Rattle.rail_rules.proofs.CallerLemmas.{move_in_range}
use Rattle.rail_block.proofs.Limits.{call_short}
use Rattle.rail_block.proofs.moves.KnownMove.dwell.Goals as goal

pub returns-clause-time : goal.returns-clause-time
returns-clause-time c =
    let known = c.args.self.now in
    let plant = known.plant.now in
    let t = known.train in
    let m = known.place - 1 - 1 in
    let after : known.place - 1 ≡ suc m = omega (arith, known.first, c.if-self-eq1.false) in
    let stands = c.call_dwell-call.ensures ∙ ap (λ (o : Option Call). option_map_or (λ (call : Call). call.dwell) o 0) c.call.ensures in
    let turns = c.turn_time-turn.ensures ∙ ap (λ (row : MoveRow). option_map_or (λ (turn : TurnRow). turn.time) row.turn 0) c.move_row.ensures.row in
    c.from.ensures ∙ c.max.ensures ∙ (λ k. max (stands k) (turns k)) ∙ ap (dwell plant t) (sym after)

pub returns-clause-short : goal.returns-clause-short
returns-clause-short c =
    let known = c.args.self.now in
    let plant = known.plant.now in
    let within : known.place - 1 - 1 < moves plant known.train = omega (arith, known.last, c.if-self-eq1.false) in
    let stands = λ (o : Option Call). option_map_or (λ (call : Call). call.dwell) o 0 in
    omega (
      arith,
      c.from.ensures,
      c.max.ensures,
      c.call_dwell-call.ensures,
      c.turn_time-turn.ensures,
      ap stands c.call.ensures,
      (call_short plant known.accepted known.train (known.place - 1 - 1) known.known within).dwell,
      (move_in_range (length plant.tables.sections) c.move_row.result.now c.move_row.ensures.fine).turn_time,
    )
