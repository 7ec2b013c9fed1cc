use Rattle.std.proofs.Common.{sym, ◌∙◌}
use Rattle.rail_cores.proofs.Cleared.{holder_below}
use Rattle.rail_cores.proofs.alone.first_holder_but.Goals as goal

pub has-requires : goal.has-requires
has-requires c = holder_below c.args.moves.now c.args.places.now c.section-item.result c.in-Some.holder c.requires.made (sym c.holder.ensures ∙ c.in-Some.is)

pub returns-then-not-has : goal.returns-then-not-has
returns-then-not-has c = holder_below c.args.moves.now c.args.places.now c.section-item.result c.in-Some.holder c.requires.made (sym c.holder.ensures ∙ c.in-Some.is)
