use Rattle.std.proofs.Common.{◌≡◌, drop}
use Rattle.rail_place.specs.Owners.{first_owned_in}
use Rattle.rail_place.proofs.owners.first_owned.Given as goal

abbrev pub invariant-loop-section : goal.invariant-loop-section
invariant-loop-section l = first_owned_in l.owners.items (drop l.section-index l.sections) ≡ first_owned_in l.owners.items l.sections
