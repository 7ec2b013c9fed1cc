use Rattle.std.proofs.Common.{refl}
use Rattle.rail_gen.proofs.Spellings.{out_name}
use Rattle.rail_gen.proofs.names.route_out.Goals as goal

pub name-requires : goal.name-requires
name-requires c = out_name c.args.way c.args.k 98 c.requires.way c.requires.digit refl

pub name-requires-else-is_b : goal.name-requires-else-is_b
name-requires-else-is_b c = out_name c.args.way c.args.k 97 c.requires.way c.requires.digit refl
