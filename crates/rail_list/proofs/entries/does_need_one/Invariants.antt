use Rattle.std.proofs.Common.{◌≡◌, ◌-◌, false, take}
use Rattle.std.specs.List.{list_any}
use Rattle.rail_rules.specs.Numbers.{is_in}
use Rattle.rail_place.specs.Tables.{moves_in}
use Rattle.rail_list.proofs.entries.does_need_one.Given as goal

abbrev pub invariant-loop-section : goal.invariant-loop-section
invariant-loop-section l = list_any (λ x. is_in x ((moves_in l.moves).claim l.train (l.place - 1))) (take l.section-index l.sections) ≡ false
