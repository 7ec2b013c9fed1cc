use Rattle.std.proofs.Common.{◌≡◌, length, drop}
use Rattle.rail_place.specs.Holdings.{taken_up}
use Rattle.rail_place.proofs.holdings.take_up.Given as goal

abbrev pub invariant-loop-section : goal.invariant-loop-section
invariant-loop-section l = record {
  same_length : length l.holdings.items ≡ length l.initial.holdings.items;
  rest : taken_up l.holdings.items (drop l.section-index l.sections) l.train ≡ taken_up l.initial.holdings.items l.sections l.train;
}
