use Rattle.rail_laws_end.proofs.Continued.{continued}
use Rattle.rail_laws_end.proofs.continuation.every_lawful_front_can_be_continued.Goals as goal

pub returns : goal.returns
returns c = continued
