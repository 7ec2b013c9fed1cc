use Rattle.rail_consequence.proofs.Counts.{in_at}
use Rattle.rail_consequence.proofs.analyst.Worksheet.has_other_inside.Goals as goal

pub stands_inside-requires-clause-train : goal.stands_inside-requires-clause-train
stands_inside-requires-clause-train c = c.requires.listed.trains c.other-item.result (in_at c.other-item.result c.args.inside.now c.loop-other.other-index c.loop-other-test.true c.other-item.is)
