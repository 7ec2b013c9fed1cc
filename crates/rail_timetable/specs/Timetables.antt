-- Timetable files: the calls that they spell, and why they are refused.
use Rattle.std.specs.Prelude.{◌≡◌, ℕ, ◌+◌, ◌<◌, ◌≤◌, ◌==◌, Bool, true, false, not, ◌&&◌, is_some, List, [], ◌∷◌, ◌++◌, length, get_or, codes, Option, Some}
use Rattle.std.specs.Option.{option_map_or}
use Rattle.rail_base.specs.FirstRefusals.{Test, first_failing}
use Rattle.rail_base.specs.declared.plant.Call.{Call}
use Rattle.rail_base.specs.declared.plant.Tables.{Tables}
use Rattle.rail_base.specs.declared.refusals.Refusal.{Refusal}
use Rattle.rail_base.specs.declared.refusals.Part.TheVariants as part
use Rattle.rail_base.specs.declared.refusals.Reason.{Reason}
use Rattle.rail_base.specs.declared.refusals.Reason.TheVariants.{TimetableForm, TimetableValue}
use Rattle.rail_rules.specs.Numbers.{same_numbers}
use Rattle.rail_plan.specs.CallTables.{call_at, no_calls, with_call}
use Rattle.rail_timetable.specs.declared.rows.PlacedCall.{PlacedCall}
use Rattle.rail_timetable.specs.Fields.{call_of}
use Rattle.rail_timetable.specs.Records.{records_in}

-- the header is the record `train,place,arrival,departure,dwell`
abbrev pub is_header : List (List ℕ) → Bool
is_header (train ∷ place ∷ arrival ∷ departure ∷ dwell ∷ []) = same_numbers train (codes "train") && same_numbers place (codes "place")
    && same_numbers arrival (codes "arrival") && same_numbers departure (codes "departure") && same_numbers dwell (codes "dwell")
is_header fields = false

-- the calls with that of a record, where it spells one
abbrev pub with_record : Tables → List (List (Option Call)) → List (List ℕ) → List (List (Option Call))
with_record tables calls fields =
    option_map_or (λ (placed : PlacedCall). with_call calls placed.train placed.place placed.call) (call_of tables fields) calls

-- the calls with those of records
abbrev pub with_records : Tables → List (List (Option Call)) → List (List (List ℕ)) → List (List (Option Call))
with_records tables calls [] = calls
with_records tables calls (fields ∷ records) = with_records tables (with_record tables calls fields) records

-- the calls of a file's records, the header first
abbrev pub calls_of : Tables → List (List (List ℕ)) → List (List (Option Call))
calls_of tables [] = no_calls tables
calls_of tables (header ∷ records) = with_records tables (no_calls tables) records

-- the calls that a file spells
abbrev pub calls_in : Tables → List ℕ → List (List (Option Call))
calls_in tables bytes = calls_of tables (records_in bytes)

-- the train has a call at the place already
abbrev pub is_taken : List (List (Option Call)) → Option PlacedCall → Bool
is_taken calls placed = option_map_or (λ (p : PlacedCall). is_some (call_at calls p.train p.place)) placed false

-- a refusal of a record for this reason
abbrev pub refusal_at : Reason → ℕ → Refusal
refusal_at reason n = record { reason = reason; part = part.Row; item = n; step = 0 }

-- a record is refused for this reason, wherever the last argument is true
abbrev pub refused_record : Reason → ℕ → Bool → Test Refusal
refused_record reason n fails = record { answer = refusal_at reason n; fails = fails }

-- the tests of a record behind the header, in their order; these calls stand before it
abbrev pub record_tests : Tables → List (List (Option Call)) → ℕ → List (List ℕ) → List (Test Refusal)
record_tests tables calls n fields =
    refused_record TimetableForm n (not (length fields == 5))
    ∷ refused_record TimetableValue n (not (is_some (call_of tables fields)))
    ∷ refused_record TimetableValue n (is_taken calls (call_of tables fields))
    ∷ []

-- the tests of records behind the header, the first of which has the number n
abbrev pub records_tests : Tables → List (List (Option Call)) → ℕ → List (List (List ℕ)) → List (Test Refusal)
records_tests tables calls n [] = []
records_tests tables calls n (fields ∷ records) =
    record_tests tables calls n fields ++ records_tests tables (with_record tables calls fields) (n + 1) records

-- the tests of a file's records: the header, and then record by record, counted from 1 with the header
abbrev pub file_tests : Tables → List (List (List ℕ)) → List (Test Refusal)
file_tests tables [] = refused_record TimetableForm 1 true ∷ []
file_tests tables (header ∷ records) =
    refused_record TimetableForm 1 (not (is_header header)) ∷ records_tests tables (no_calls tables) 2 records

-- why a timetable is refused, if it is
abbrev pub timetable_refusal : Tables → List ℕ → Option Refusal
timetable_refusal tables bytes = first_failing (file_tests tables (records_in bytes))

-- a record of a file behind its header spells this call
pub record IsSpelled (tables : Tables) (bytes : List ℕ) (placed : PlacedCall) : Type 0 where
  pub index : ℕ
  pub behind : 1 ≤ index
  pub there : index < length (records_in bytes)
  pub spelled : call_of tables (get_or (records_in bytes) index []) ≡ Some placed

-- the calls are those that the records of a file behind its header spell, and no others
pub record AreSpelledCalls (tables : Tables) (bytes : List ℕ) (calls : List (List (Option Call))) : Type 0 where
  pub each : (placed : PlacedCall) → IsSpelled tables bytes placed → call_at calls placed.train placed.place ≡ Some placed.call
  pub others : (t place : ℕ) (call : Call) → 1 ≤ place → call_at calls t place ≡ Some call
      → IsSpelled tables bytes (record { train = t; place = place; call = call })
