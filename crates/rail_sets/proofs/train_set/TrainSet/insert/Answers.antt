use Rattle.std.proofs.Common.{◌%◌, arith, rules}
use Rattle.rail_sets.proofs.TrainSetLemmas.{put_in}
use Rattle.rail_sets.proofs.train_set.TrainSet.insert.Goals as goal

pub returns : goal.returns
returns c = put_in c.args.self.now.words c.args.train c.from.result (c.train.inside.0 % 64) (omega (arith, c.from.ensures, c.train.view_is)) (omega (arith, c.train.view_is)) (search rules)
