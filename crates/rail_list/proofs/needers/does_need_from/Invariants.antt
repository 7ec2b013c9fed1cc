use Rattle.std.proofs.Common.{◌≡◌, ◌&&◌, false, leb, take}
use Rattle.std.specs.List.{list_any}
use Rattle.rail_rules.specs.Numbers.{any_below, is_in}
use Rattle.rail_place.specs.Tables.{moves_in}
use Rattle.rail_list.proofs.needers.does_need_from.Given as goal

abbrev pub invariant-loop-section : goal.invariant-loop-section
invariant-loop-section l = list_any (λ x. any_below (λ m. leb l.place m && is_in x ((moves_in l.moves).claim l.train m)) ((moves_in l.moves).moves l.train)) (take l.section-index l.sections) ≡ false
