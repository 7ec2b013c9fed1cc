use Rattle.rail_laws_front.proofs.Apart.{never_overlap}
use Rattle.rail_laws_front.proofs.invariant.blocking_intervals_never_overlap.Goals as goal

pub returns : goal.returns
returns c = never_overlap
