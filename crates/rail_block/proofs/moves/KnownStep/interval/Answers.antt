use Rattle.std.proofs.Common.{◌-◌, ap, sym, ◌∙◌, arith}
use Rattle.std.proofs.lemmas.Bool.{cond-false}
use Rattle.rail_rules.specs.Intervals.{is_over, no_parts, parts_of}
use Rattle.rail_rules.proofs.CallerLemmas.{not_over}
use Rattle.rail_block.specs.declared.times.MoveTimes.{MoveTimes}
use Rattle.rail_block.proofs.Placing.{before, made_at}
use Rattle.rail_block.proofs.moves.KnownStep.interval.Goals as goal

pub returns : goal.returns
returns c = λ adms h.
    let section = c.section.ensures.section in
    let place = before c.args.self.now.of.now.place c.args.self.now.of.now.first in
    let begun = ap (λ (times : MoveTimes). times.admitted) (made_at c.args.self.now.of.now.plant.now c.args.self.now.of.now.train adms c.args.self.now.of.now.place c.args.times.now c.args.self.now.of.now.first h.times) in
    let ended = c.end_of.ensures adms h in
    let plant = c.args.self.now.of.now.plant.now in
    let t = c.args.self.now.of.now.train in
    let m = c.args.self.now.of.now.place - 1 in
    let j = c.args.self.now.step - 1 in
    let needed = not_over plant t m j (omega (arith, c.args.self.now.first, c.args.self.now.last)) in
    let parts = c.parts.ensures adms h ∙ sym (cond-false (is_over plant t m j) no_parts (parts_of plant t adms m j) needed) in
    λ k. record { section = section k; train = c.args.self.now.of.now.train; place = place k; begin = begun k; «end» = ended k; parts = parts k }
