use Rattle.std.proofs.Common.{◌%◌, arith}
use Rattle.rail_sets.proofs.Words.{added_at}
use Rattle.rail_sets.proofs.sets.add.Goals as goal

pub returns-clause-set : goal.returns-clause-set
returns-clause-set c = λ x low. added_at c.args.set.now c.args.section x c.from.result (c.section.inside.0 % 64) (omega (arith, c.from.ensures, c.section.view_is)) (omega (arith, c.section.view_is)) (omega (arith, c.from.ensures, low, c.requires, c.section.view_is))
