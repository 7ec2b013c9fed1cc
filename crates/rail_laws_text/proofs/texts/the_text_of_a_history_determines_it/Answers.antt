use Rattle.rail_laws_text.proofs.Injective.{text_same}
use Rattle.rail_laws_text.proofs.texts.the_text_of_a_history_determines_it.Goals as goal

pub returns : goal.returns
returns c = text_same
