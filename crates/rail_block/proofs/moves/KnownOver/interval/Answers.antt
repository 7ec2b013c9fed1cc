use Rattle.std.proofs.Common.{◌-◌, ◌<◌, ◌≤◌, ap, sym, ◌∙◌, arith}
use Rattle.std.proofs.lemmas.Bool.{cond-true}
use Rattle.rail_rules.specs.Intervals.{is_over, no_parts, parts_of}
use Rattle.rail_rules.specs.Plant.{claims, steps}
use Rattle.rail_rules.proofs.CallerLemmas.{is_over_from}
use Rattle.rail_laws_front.proofs.CallerLemmas.{over_not_open, well_formed_from_accepted}
use Rattle.rail_block.specs.declared.times.MoveTimes.{MoveTimes}
use Rattle.rail_block.proofs.Placing.{before, made_at}
use Rattle.rail_block.proofs.Ending.{closed-end}
use Rattle.rail_block.proofs.moves.KnownOver.interval.Goals as goal

pub returns : goal.returns
returns c = λ adms h.
    let own = c.args.self.now in
    let known = own.of.now in
    let plant = known.plant.now in
    let t = known.train in
    let m = known.place - 1 in
    let j = own.step - 1 in
    let over : steps plant t m ≤ j = omega (arith, own.behind) in
    let within : j < claims plant t m = omega (arith, own.behind, own.last) in
    let section = c.section.ensures.section in
    let place = before known.place known.first in
    let begun = ap (λ (times : MoveTimes). times.admitted) (made_at plant t adms known.place c.args.times.now known.first h.times) in
    let closed = over_not_open plant (well_formed_from_accepted plant known.accepted) t m j over within adms in
    let ended = closed-end plant t adms m j c.end_time.result closed (c.end_time.ensures adms h) in
    let parts = c.without_parts.ensures ∙ sym (cond-true (is_over plant t m j) no_parts (parts_of plant t adms m j) (is_over_from plant t m j over)) in
    λ k. record { section = section k; train = t; place = place k; begin = begun k; «end» = ended k; parts = parts k }
