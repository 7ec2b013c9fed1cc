use Rattle.std.proofs.Common.{◌≡◌, true, length}
use Rattle.rail_rules.specs.Places.{completes, has_holder, is_valid_state}
use Rattle.rail_place.specs.Tables.{moves_in}
use Rattle.rail_consequence.specs.Needs.{IsSet}
use Rattle.rail_consequence.proofs.analyst.playing.does_complete_in.Given as goal

abbrev pub invariant-loop-train : goal.invariant-loop-train
invariant-loop-train g l =
    let plan = moves_in l.fn.moves in
    record {
      state : is_valid_state plan l.positions ≡ true;
      taken : IsSet l.taken (has_holder plan l.positions);
      rest : completes plan l.positions l.left ≡ completes plan l.fn.places.positions l.fn.list;
    }

abbrev pub decreases-loop-train : goal.decreases-loop-train
decreases-loop-train g l = length l.left
