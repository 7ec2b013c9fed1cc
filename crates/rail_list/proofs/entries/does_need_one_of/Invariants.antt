use Rattle.std.proofs.Common.{◌≡◌, ◌+◌, false, take}
use Rattle.std.specs.List.{list_any}
use Rattle.rail_rules.specs.Numbers.{any_below, is_in}
use Rattle.rail_place.specs.Tables.{moves_in}
use Rattle.rail_list.proofs.entries.does_need_one_of.Given as goal

abbrev pub invariant-loop-section : goal.invariant-loop-section
invariant-loop-section l = list_any (λ x. any_below (λ m. is_in x ((moves_in l.moves).claim l.train (l.place + m))) l.count) (take l.section-index l.sections) ≡ false
