-- What a plant that may be run says of a train, a move and a call.
use Rattle.std.proofs.Common.{◌≡◌, ℕ, ◌-◌, ◌<◌, ◌≤◌, true, length, arith}
use Rattle.rail_rules.specs.Plant.{Plant, trains, moves, move_row, steps, call_after}
use Rattle.rail_rules.specs.Accepted.{is_accepted}
use Rattle.rail_block.specs.declared.moves.KnownMove.{KnownMove}
use Rattle.rail_block.specs.KnownMoves.{of_move}
use Rattle.rail_rules.proofs.CallerLemmas.{IsCallInRange, IsRowInRange, accepted_parts, call_in_range, move_in_range, row_in_range}

-- the train is within the ranges
pub train_in_range : (plant : Plant) → is_accepted plant ≡ true → (t : ℕ) → t < trains plant → IsRowInRange plant t
train_in_range plant h t lt = row_in_range plant (accepted_parts plant h).trains_in_range t lt

-- a move has few steps
pub few_steps : (known : KnownMove) → of_move steps known ≤ 32
few_steps known =
    let plant : Plant = known.plant.now in
    (move_in_range (length plant.tables.sections) (of_move move_row known)
    ((train_in_range plant known.accepted known.train known.known).each_move (known.place - 1) (omega (arith, known.first, known.last)))).few_steps

-- the call at a place, with its dwell and its departure
pub call_short : (plant : Plant) → is_accepted plant ≡ true → (t m : ℕ) → t < trains plant → m < moves plant t → IsCallInRange (call_after plant t m)
call_short plant h t m lt lm = call_in_range plant (accepted_parts plant h).calls t m lt lm
