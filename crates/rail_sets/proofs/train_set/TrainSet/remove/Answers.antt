use Rattle.std.proofs.Common.{◌%◌, arith, rules}
use Rattle.rail_sets.proofs.TrainSetLemmas.{taken_less, taken_out}
use Rattle.rail_sets.proofs.train_set.TrainSet.remove.Goals as goal

pub returns-clause-left : goal.returns-clause-left
returns-clause-left c = taken_out c.args.self.now.words c.args.train c.from.result (c.train.inside.0 % 64) (omega (arith, c.from.ensures, c.train.view_is)) (omega (arith, c.train.view_is)) (search rules)

pub returns-clause-fewer : goal.returns-clause-fewer
returns-clause-fewer c = taken_less c.args.self.now.words c.args.train c.from.result (c.train.inside.0 % 64) (omega (arith, c.from.ensures, c.train.view_is)) (omega (arith, c.train.view_is)) (search rules)
