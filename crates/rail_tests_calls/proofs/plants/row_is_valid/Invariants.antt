use Rattle.std.proofs.Common.{◌≡◌, ◌-◌, ◌∷◌, [], true}
use Rattle.rail_rules.specs.Numbers.{all_below}
use Rattle.rail_rules.specs.Moves.{is_valid_move}
use Rattle.rail_place.specs.Tables.{moves_in, row_lists}
use Rattle.rail_tests_calls.proofs.plants.row_is_valid.Given as goal

abbrev pub invariant-loop-made : goal.invariant-loop-made
invariant-loop-made l = all_below (is_valid_move (moves_in (row_lists l.need [] l.stand ∷ [])) 0) (l.made - 1) ≡ true
