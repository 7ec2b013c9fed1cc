use Rattle.rail_consequence.proofs.Counts.{in_at}
use Rattle.rail_consequence.proofs.analyst.Worksheet.are_several_inside.Goals as goal

pub stands_inside-requires-clause-train : goal.stands_inside-requires-clause-train
stands_inside-requires-clause-train c = c.requires.listed.trains c.train-item.result (in_at c.train-item.result c.args.inside.now c.loop-train.train-index c.loop-train-test.true c.train-item.is)
