-- The fields of a call: what each spells.
use Rattle.std.specs.Prelude.{ℕ, ◌-◌, ◌<◌, ◌≤◌, ◌==◌, Bool, true, false, ◌&&◌, cond, is_some, List, [], ◌∷◌, length, map, codes, Option, Some, None, option_and_then, option_map, IsTrue}
use Rattle.rail_base.specs.NameForms.{is_name}
use Rattle.rail_base.specs.Limits.{is_from_one}
use Rattle.rail_base.specs.declared.plant.Call.{Call}
use Rattle.rail_base.specs.declared.plant.Tables.{Tables}
use Rattle.rail_base.specs.declared.plant.TrainRow.{TrainRow}
use Rattle.rail_rules.specs.Accepted.{is_call_in_range}
use Rattle.rail_rules.specs.Numbers.{same_numbers}
use Rattle.rail_rules.specs.Plant.{move_row, moves}
use Rattle.rail_plan.specs.PlanFaults.{bare}
use Rattle.rail_text.specs.Decimals.{is_decimal, value_of}
use Rattle.rail_text.specs.Lines.{number_of_name}
use Rattle.rail_text.specs.Times.{input_time}
use Rattle.rail_timetable.specs.declared.fields.Dwell.{Dwell}
use Rattle.rail_timetable.specs.declared.fields.Dwell.TheVariants.{Empty, Pass, Least}
use Rattle.rail_timetable.specs.declared.records.Fields.{Fields}
use Rattle.rail_timetable.specs.declared.rows.PlacedCall.{PlacedCall}

-- the texts of five fields
abbrev pub texts_of : Fields → List (List ℕ)
texts_of fields = fields.train.now ∷ fields.place.now ∷ fields.arrival.now ∷ fields.departure.now ∷ fields.dwell.now ∷ []

-- the number of the train of this name
abbrev pub train_named : Tables → List ℕ → Option ℕ
train_named tables field = cond (is_name field) (number_of_name (map (λ (row : TrainRow). row.name) tables.trains) field) None

-- a place: a number from 1 to that of the last place, without leading zeros
abbrev pub place_within : ℕ → List ℕ → Option ℕ
place_within last field = cond (is_decimal field && is_from_one last (value_of field)) (Some (value_of field)) None

-- a time that may be missing: an empty field, or a time of an input
abbrev pub time_if_any : List ℕ → Option (Option ℕ)
time_if_any [] = Some None
time_if_any (b ∷ bs) = option_map (λ time. Some time) (input_time (b ∷ bs))

-- a dwell: an empty field, `pass`, or a time of an input
abbrev pub dwell_of : List ℕ → Option Dwell
dwell_of [] = Some Empty
dwell_of (b ∷ bs) = cond (same_numbers (b ∷ bs) (codes "pass")) (Some Pass) (option_map (λ time. Least time) (input_time (b ∷ bs)))

-- the call at the last place of an itinerary: it is no stop, and has no departure and no dwell
abbrev pub last_call : Option ℕ → Option ℕ → Dwell → Option Call
last_call a None Empty = Some (record { stops = false; arrival = a; departure = None; dwell = 0 })
last_call a d stay = None

-- the call at a place before it: a stop, unless it passes, which it may not where there is a turn
abbrev pub earlier_call : Bool → Option ℕ → Option ℕ → Dwell → Option Call
earlier_call turns a d Empty = Some (record { stops = true; arrival = a; departure = d; dwell = 0 })
earlier_call turns a d Pass = cond turns None (Some (record { stops = false; arrival = a; departure = d; dwell = 0 }))
earlier_call turns a d (Least time) = Some (record { stops = true; arrival = a; departure = d; dwell = time })

-- the call that an arrival, a departure and a dwell spell at a place, which may be the last one or have a turn
abbrev pub call_at_place : Bool → Bool → List ℕ → List ℕ → List ℕ → Option Call
call_at_place last turns arrival departure dwell =
    option_and_then (λ (a : Option ℕ). option_and_then (λ (d : Option ℕ). option_and_then (λ (stay : Dwell).
    cond last (last_call a d stay) (earlier_call turns a d stay)) (dwell_of dwell)) (time_if_any departure)) (time_if_any arrival)

-- the call of a train that the four fields behind its name spell
abbrev pub call_of_train : Tables → List ℕ → List ℕ → List ℕ → List ℕ → ℕ → Option PlacedCall
call_of_train tables place arrival departure dwell t =
    option_and_then (λ (p : ℕ). option_map (λ (call : Call). record { train = t; place = p; call = call })
    (call_at_place (p == moves (bare tables) t) (is_some (move_row (bare tables) t (p - 1)).turn) arrival departure dwell))
    (place_within (moves (bare tables) t) place)

-- the call that the fields of a record spell: the train, the place, the arrival, the departure and the dwell
abbrev pub call_of : Tables → List (List ℕ) → Option PlacedCall
call_of tables (train ∷ place ∷ arrival ∷ departure ∷ dwell ∷ []) =
    option_and_then (call_of_train tables place arrival departure dwell) (train_named tables train)
call_of tables fields = None

-- a call that may stand at its place in a plant of these tables
pub record MayStand (tables : Tables) (placed : PlacedCall) : Type 0 where
  pub train : placed.train < length tables.trains
  pub first : 1 ≤ placed.place
  pub last : placed.place ≤ moves (bare tables) placed.train
  pub fine : IsTrue (is_call_in_range (placed.place == moves (bare tables) placed.train)
      (is_some (move_row (bare tables) placed.train (placed.place - 1)).turn) (Some placed.call))
