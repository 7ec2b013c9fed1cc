use Rattle.rail_gen.proofs.Spellings.{letter_name}
use Rattle.rail_gen.proofs.names.at_station.Goals as goal

pub name-requires : goal.name-requires
name-requires c = letter_name c.args.letter c.args.k c.requires.letter c.requires.digit
