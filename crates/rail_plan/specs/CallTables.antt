-- The calls that belong to tables.
use Rattle.std.specs.Prelude.{◌≡◌, ℕ, zero, suc, ◌<◌, ◌-◌, List, [], length, map, get_or, set, replicate, Option, Some, None, IsTrue}
use Rattle.rail_base.specs.declared.plant.Call.{Call}
use Rattle.rail_base.specs.declared.plant.Tables.{Tables}
use Rattle.rail_base.specs.declared.plant.TrainRow.{TrainRow}
use Rattle.rail_rules.specs.Plant.{Plant, moves}
use Rattle.rail_rules.specs.Accepted.{are_calls_in_range}
use Rattle.rail_rules.specs.Numbers.{or_else}
use Rattle.rail_rules.specs.RunHistories.{call_departure}
use Rattle.rail_plan.specs.PlanFaults.{bare}

-- the plant of the tables with these calls
abbrev pub with_calls : Tables → List (List (Option Call)) → Plant
with_calls tables calls = record { tables = tables; calls = calls }

-- no call: a list for each train, with room for a call at each of its places
abbrev pub no_calls : Tables → List (List (Option Call))
no_calls tables = map (λ (row : TrainRow). replicate (length row.moves) None) tables.trains

-- the call of a train at a place, which counts from 1
abbrev pub call_at : List (List (Option Call)) → ℕ → ℕ → Option Call
call_at calls t place = get_or (get_or calls t []) (place - 1) None

-- the first departure of the calls at so many places, the first of which is at the end of move m
abbrev pub departure_within : List (List (Option Call)) → ℕ → ℕ → ℕ → Option ℕ
departure_within calls t m zero = None
departure_within calls t m (suc places) = or_else (call_departure (get_or (get_or calls t []) m None))
    (departure_within calls t (suc m) places)

-- for each train a place behind which it has no departure
pub record AreLasts (calls : List (List (Option Call))) (lasts : List ℕ) : Type 0 where
  pub long : length lasts ≡ length calls
  pub none : (t place : ℕ) → get_or lasts t 0 < place → call_departure (call_at calls t place) ≡ None

-- one call more
abbrev pub with_call : List (List (Option Call)) → ℕ → ℕ → Call → List (List (Option Call))
with_call calls t place call = set calls t (set (get_or calls t []) (place - 1) (Some call))

-- calls that were made for the tables: room for each train and place, and each call may stand at its place
pub record AreCallsFor (tables : Tables) (calls : List (List (Option Call))) : Type 0 where
  pub trains : length calls ≡ length tables.trains
  pub places : (t : ℕ) → length (get_or calls t []) ≡ moves (bare tables) t
  pub fine : (t : ℕ) → t < length tables.trains → IsTrue (are_calls_in_range (with_calls tables calls) t)
