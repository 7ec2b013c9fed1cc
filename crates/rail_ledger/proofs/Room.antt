-- Room in the queue, and numbers that fit.
use Rattle.std.proofs.Common.{◌≡◌, ℕ, ◌<◌, ◌≤◌, true, arith}
use Rattle.rail_rules.specs.Plant.{Plant, moves, trains}
use Rattle.rail_rules.specs.Fronts.{Front}
use Rattle.rail_rules.specs.Events.{due_lines}
use Rattle.rail_rules.specs.Accepted.{is_accepted}
use Rattle.rail_rules.proofs.CallerLemmas.{accepted_parts, row_in_range}
use Rattle.rail_laws_events.proofs.CallerLemmas.{few_admissions, tally_all}
use Rattle.rail_laws_step.proofs.CallerLemmas.{few_due}
use Rattle.rail_state.specs.TrainStates.{state_of}
use Rattle.rail_state.proofs.CallerLemmas.{well_formed_plant, count-all}
use Rattle.rail_ledger.specs.declared.ledger.Ledger.{Ledger}
use Rattle.rail_ledger.specs.Inputs.{input_in}
use Rattle.rail_ledger.specs.Ledgers.{IsAt}
use Rattle.rail_base.specs.declared.limits.TheConstants.{ITINERARY_ROUTES}
use Rattle.rail_state.specs.declared.pushes.TheConstants.{MOVE_EVENTS}

-- where a ledger stands for a front there is room for the events of an admission
pub room_left : (front : Front) (ledger : Ledger) → IsAt front ledger → MOVE_EVENTS ≤ ledger.state.queue.spare
room_left front ledger at =
    omega (
      arith,
      at.queue_room,
      count-all ledger.state.queue.events,
      at.rep.pending.counted (λ e. true),
      tally_all (due_lines (input_in ledger.input) front),
      few_due (input_in ledger.input) at.rep.accepted front at.rep.lawful,
    )

-- the moves of a train fit a 16-bit counter
pub moves_fit : (plant : Plant) → is_accepted plant ≡ true → (t : ℕ) → t < trains plant → moves plant t ≤ ITINERARY_ROUTES
moves_fit plant accepted t known = (row_in_range plant (accepted_parts plant accepted).trains_in_range t known).few_moves

-- a train is at one of its places
pub place_within : (front : Front) (ledger : Ledger) → IsAt front ledger → (t : ℕ) → t < trains ledger.input.plant → (state_of ledger.state.trains t).place ≤ moves ledger.input.plant t
place_within front ledger at t known =
    omega (
      arith,
      at.rep.times.places t known,
      few_admissions (input_in ledger.input) (well_formed_plant ledger.input.plant at.rep.accepted) front at.rep.lawful t known,
    )

pub place_fits : (front : Front) (ledger : Ledger) → IsAt front ledger → (t : ℕ) → t < trains ledger.input.plant → (state_of ledger.state.trains t).place ≤ ITINERARY_ROUTES
place_fits front ledger at t known =
    omega (
      arith,
      at.rep.times.places t known,
      few_admissions (input_in ledger.input) (well_formed_plant ledger.input.plant at.rep.accepted) front at.rep.lawful t known,
      moves_fit ledger.input.plant at.rep.accepted t known,
    )
