use Rattle.rail_laws_text.proofs.Injective.{line_same}
use Rattle.rail_laws_text.proofs.texts.the_text_of_a_line_determines_it.Goals as goal

pub returns : goal.returns
returns c = line_same
