-- Which histories a run may write: repair goes before a fresh list, and the policy in force is obeyed.
use Rattle.std.specs.Prelude.{ℕ, zero, suc, ◌+◌, ◌-◌, ◌%◌, Bool, true, not, ◌&&◌, cond, List, [], ◌∷◌, Option, Some, None, is_some}
use Rattle.std.specs.Option.{option_map_or}
use Rattle.rail_base.specs.declared.orders.PolicyKind.{PolicyKind}
use Rattle.rail_base.specs.declared.orders.PolicyKind.TheVariants.{Priority, Timetable, Fcfs, Rotating, Custom}
use Rattle.rail_base.specs.declared.history.What.{What}
use Rattle.rail_base.specs.declared.history.What.TheVariants.{Admit}
use Rattle.rail_base.specs.declared.history.Note.{Note}
use Rattle.rail_base.specs.declared.history.Note.TheVariants.{Fresh}
use Rattle.rail_base.specs.declared.plant.Call.{Call}
use Rattle.rail_rules.specs.Numbers.{all_below, or_else, comes_before, same_numbers}
use Rattle.rail_rules.specs.Plant.{Plant, trains, train, moves, call_after}
use Rattle.rail_rules.specs.Fronts.{Front, admissions, has_ended}
use Rattle.rail_rules.specs.Orders.{Input, told, in_force, first_force, priority_of}
use Rattle.rail_rules.specs.Times.{ready}
use Rattle.rail_rules.specs.Causes.{place, cause, could_go, is_repairable}
use Rattle.rail_rules.specs.Lawful.{may_follow}

-- a box of the deck as it was handed in: its name, its kind and its mark
pub record Seat : Type 0 where
  pub name : List ℕ
  pub kind : PolicyKind
  pub mark : ℕ

-- what stands for a box that the deck doesn't have
abbrev pub no_seat : Seat
no_seat = record { name = []; kind = Custom; mark = 0 }

-- the box of this name
abbrev pub seat_of : List Seat → List ℕ → Seat
seat_of [] name = no_seat
seat_of (seat ∷ seats) name = cond (same_numbers seat.name name) seat (seat_of seats name)

-- the name of the policy in force after the front
abbrev pub force_of : Input → Front → List ℕ
force_of input front = in_force (first_force input) (told input.commands front)

-- the mark after an admission of the train
abbrev pub mark_after : What → ℕ → ℕ
mark_after (Admit t m note) old = (t + 1) % 65536
mark_after _ old = old

-- the mark of the rotating box of this name: by the last train admitted while it was in force, or as it was handed in
abbrev pub mark_of : Input → List Seat → List ℕ → Front → ℕ
mark_of input seats name [] = (seat_of seats name).mark
mark_of input seats name (line ∷ before) = cond (same_numbers (force_of input before) name)
    (mark_after line.entry.what (mark_of input seats name before))
    (mark_of input seats name before)

-- the departure of a call, where there is one
abbrev pub call_departure : Option Call → Option ℕ
call_departure None = None
call_departure (Some call) = call.departure

-- the planned arrival of a call, where there is one
abbrev pub call_arrival : Option Call → Option ℕ
call_arrival None = None
call_arrival (Some call) = call.arrival

-- the first departure of the calls at so many places, the first of which is at the end of move m
abbrev pub first_departure : Plant → ℕ → ℕ → ℕ → Option ℕ
first_departure plant t m zero = None
first_departure plant t m (suc places) = or_else (call_departure (call_after plant t m)) (first_departure plant t (suc m) places)

-- when a move is due: the first the entry, each other one the next departure, else the planned arrival at the last place, else the entry
abbrev pub due : Plant → ℕ → ℕ → ℕ
due plant t zero = (train plant t).entry
due plant t (suc m) =
    option_map_or (λ (at : ℕ). at)
    (or_else (first_departure plant t m (moves plant t - suc m)) (call_arrival (call_after plant t (moves plant t - 1))))
    (train plant t).entry

-- the key of a waiting train by a policy: the least one is chosen
abbrev pub key : Input → List Seat → Front → ℕ → PolicyKind → List ℕ
key input seats front t Priority = priority_of (train input.plant t).priority t (told input.commands front)
    ∷ (train input.plant t).entry ∷ t ∷ []
key input seats front t Timetable = due input.plant t (place front t) ∷ t ∷ []
key input seats front t Fcfs = ready input.plant t (admissions front t) (place front t) ∷ t ∷ []
key input seats front t Rotating = (t + 65536 - mark_of input seats (force_of input front) front) % 65536 ∷ []
key input seats front t Custom = []

-- the policy in force would not choose another train that could be admitted
abbrev pub is_chosen : Input → List Seat → Front → ℕ → Bool
is_chosen input seats front t =
    let kind : PolicyKind = (seat_of seats (force_of input front)).kind in
    all_below
    (λ u. not (could_go input front u && comes_before (key input seats front u kind) (key input seats front t kind)))
    (trains input.plant)

-- a fresh list is taken only where the repaired one doesn't complete
abbrev pub repairs_first : Input → Front → ℕ → Note → Bool
repairs_first input front t Fresh = not (is_repairable input front t)
repairs_first input front t _ = true

-- an admit line of a run: its train has no cause, repair goes before a fresh list, and the policy in force is obeyed
abbrev pub is_run_line : Input → List Seat → Front → What → Bool
is_run_line input seats front (Admit t m note) = not (is_some (cause input front t)) && repairs_first input front t note
    && is_chosen input seats front t
is_run_line input seats front _ = true

-- a run front for a deck: a lawful front whose admit lines are those of a run
abbrev pub is_run : Input → List Seat → Front → Bool
is_run input seats [] = true
is_run input seats (line ∷ before) = is_run input seats before && may_follow input before line
    && is_run_line input seats before line.entry.what

-- a run history: a run front that is lawful to the end
abbrev pub is_run_history : Input → List Seat → Front → Bool
is_run_history input seats front = is_run input seats front && has_ended front
