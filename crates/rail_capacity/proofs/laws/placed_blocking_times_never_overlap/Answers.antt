use Rattle.rail_capacity.proofs.PlacingLaws.{never_overlap}
use Rattle.rail_capacity.proofs.Conflicts.{any_two}
use Rattle.rail_capacity.proofs.laws.placed_blocking_times_never_overlap.Goals as goal

pub returns : goal.returns
returns c = λ blocks from placed apart fits x y has too same order. never_overlap blocks from placed (any_two blocks apart) fits x y has too same order
