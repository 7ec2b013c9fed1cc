use Rattle.std.proofs.Common.{◌/◌, ◌%◌, arith}
use Rattle.rail_gen.proofs.Spellings.{train_is_name}
use Rattle.rail_gen.proofs.names.train_name.Goals as goal

pub name-requires : goal.name-requires
name-requires c = train_is_name (c.args.n / 10) (c.args.n % 10) (omega (arith, c.requires)) (omega arith)
