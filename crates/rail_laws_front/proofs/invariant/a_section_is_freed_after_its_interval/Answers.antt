use Rattle.rail_laws_front.proofs.Due.{free_due}
use Rattle.rail_laws_front.proofs.Timely.{timely}
use Rattle.rail_laws_front.proofs.invariant.a_section_is_freed_after_its_interval.Goals as goal

pub returns : goal.returns
returns c = λ input fine front t m j lawful. free_due input front t m j (timely input fine front lawful)
