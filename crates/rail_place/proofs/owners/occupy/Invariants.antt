use Rattle.std.proofs.Common.{◌≡◌, length, drop, vec_capacity, Some}
use Rattle.rail_place.specs.Owners.{given}
use Rattle.rail_place.proofs.owners.occupy.Given as goal

abbrev pub invariant-loop-section : goal.invariant-loop-section
invariant-loop-section l = record {
  same_length : length l.owners.items ≡ length l.initial.owners.items;
  room : vec_capacity l.owners ≡ vec_capacity l.initial.owners;
  rest : given l.owners.items (drop l.section-index l.sections) (Some l.train) ≡ given l.initial.owners.items l.sections (Some l.train);
}
