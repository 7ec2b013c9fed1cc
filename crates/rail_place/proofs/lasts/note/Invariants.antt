use Rattle.std.proofs.Common.{◌≡◌, length, drop}
use Rattle.rail_place.specs.Owners.{given}
use Rattle.rail_place.proofs.lasts.note.Given as goal

abbrev pub invariant-loop-section : goal.invariant-loop-section
invariant-loop-section l = record {
  same_length : length l.noted.items ≡ length l.initial.noted.items;
  rest : given l.noted.items (drop l.section-index l.sections) l.place ≡ given l.initial.noted.items l.sections l.place;
}
