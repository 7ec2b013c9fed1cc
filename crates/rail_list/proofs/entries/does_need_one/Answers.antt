use Rattle.rail_consequence.proofs.CallerLemmas.{in_at}
use Rattle.rail_list.proofs.entries.does_need_one.Goals as goal

pub claims-requires-clause-section : goal.claims-requires-clause-section
claims-requires-clause-section c =
    c.requires.in_range c.section-item.result (in_at c.section-item.result c.args.sections.now c.loop-section.section-index c.loop-section-test.true c.section-item.is)
