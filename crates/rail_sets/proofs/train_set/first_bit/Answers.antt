use Rattle.std.proofs.Common.{rules}
use Rattle.rail_sets.proofs.TrainSetLemmas.{first_above, none_above}
use Rattle.rail_sets.proofs.train_set.first_bit.Goals as goal

pub returns-then-high-eq0 : goal.returns-then-high-eq0
returns-then-high-eq0 c = none_above c.args.word c.args.bit (search rules)

pub returns : goal.returns
returns c = first_above c.args.word c.args.bit (search rules) (search rules) (search rules)
