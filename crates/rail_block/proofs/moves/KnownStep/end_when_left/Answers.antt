use Rattle.std.proofs.Common.{◌+◌, ◌-◌, ap, sym, ◌∙◌, arith}
use Rattle.rail_rules.specs.Plant.{step_section}
use Rattle.rail_rules.specs.Times.{clearing}
use Rattle.rail_rules.proofs.CallerLemmas.{end_needed}
use Rattle.rail_block.proofs.Ending.{clears-left}
use Rattle.rail_block.proofs.moves.KnownStep.end_when_left.Goals as goal

pub returns : goal.returns
returns c = λ no adms left.
    let plant = c.args.self.now.of.now.plant.now in
    let t = c.args.self.now.of.now.train in
    let m = c.args.self.now.of.now.place - 1 in
    let j = c.args.self.now.step - 1 in
    c.end_from.ensures ∙ ap (λ from. from + clearing plant t (step_section plant t m j) + plant.tables.release) (left ∙ clears-left plant t adms m j no)
    ∙ sym (end_needed plant t adms m j (omega (arith, c.args.self.now.first, c.args.self.now.last)))
