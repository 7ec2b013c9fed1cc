use Rattle.std.proofs.Common.{◌/◌, ◌<◌, arith}
use Rattle.rail_consequence.proofs.analyst.closing.word_of.Goals as goal

pub returns-clause-word : goal.returns-clause-word
returns-clause-word g c = λ low.
    let below : c.args.section / 64 < 8 = omega (arith, low, c.requires.few) in
    omega (arith, low, c.requires.few, c.from.ensures, c.section.view_is, below)
