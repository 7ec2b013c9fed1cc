use Rattle.rail_laws_text.proofs.Naming.{accepted_named}
use Rattle.rail_laws_text.proofs.texts.names_tell_trains_and_sections.Goals as goal

pub returns : goal.returns
returns c = accepted_named
