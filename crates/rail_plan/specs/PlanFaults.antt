-- Which tables are planned, and their faults.
use Rattle.std.specs.Prelude.{ℕ, zero, suc, ◌-◌, ◌≤◌, Bool, not, cond, nat_le, List, [], ◌++◌, get_or, length, map, sum_by, Option, Some, None, IsTrue}
use Rattle.std.specs.List.{find, list_all}
use Rattle.rail_base.specs.FirstRefusals.{IsFirstRefusal}
use Rattle.rail_base.specs.Limits.{most, Sections, Trains, ReleaseTime, OverlapTime, Depth}
use Rattle.rail_base.specs.declared.plant.Tables.{Tables}
use Rattle.rail_base.specs.declared.plant.SectionRow.{SectionRow}
use Rattle.rail_base.specs.declared.plant.TrainRow.{TrainRow}
use Rattle.rail_base.specs.declared.plant.MoveRow.{MoveRow}
use Rattle.rail_rules.specs.Numbers.{all_below, is_in, or_else}
use Rattle.rail_rules.specs.Plant.{Plant, no_move, section, train, moves, needed, claimed, standing_after, shortest_end, from_turn, longer}
use Rattle.rail_rules.specs.Accepted.{are_distinct_names, is_section_in_range, is_train_in_range}
use Rattle.rail_plan.specs.declared.faults.PlanFault.{PlanFault}
use Rattle.rail_plan.specs.declared.faults.PlanFault.TheVariants.{TooLong, SelfBlocked, OutOfMemory}

-- the plant of the tables, without calls
abbrev pub bare : Tables → Plant
bare tables = record { tables = tables; calls = [] }

-- tables within the limits and ranges, with distinct names of sections and of trains; each move claims known sections
-- and none twice, each turn is at a step of its move, and no turn and no overlap is after a train's last move
pub record IsPlannable (tables : Tables) : Type 0 where
  pub few_sections : length tables.sections ≤ most Sections
  pub few_trains : length tables.trains ≤ most Trains
  pub release : tables.release ≤ most ReleaseTime
  pub overlap_time : tables.overlap_time ≤ most OverlapTime
  pub depth : tables.depth ≤ most Depth
  pub sections : IsTrue (list_all is_section_in_range tables.sections)
  pub section_names : IsTrue (are_distinct_names (map (λ (row : SectionRow). row.name) tables.sections))
  pub train_names : IsTrue (are_distinct_names (map (λ (row : TrainRow). row.name) tables.trains))
  pub trains : IsTrue (all_below (is_train_in_range (bare tables)) (length tables.trains))

-- the metres of the sections together
abbrev pub metres_of : Plant → List ℕ → ℕ
metres_of plant sections = sum_by (λ x. (section plant x).length) sections

-- the standing set after a move of a train of so many metres
abbrev pub standing_of : Plant → ℕ → MoveRow → List ℕ
standing_of plant metres row = longer (shortest_end plant metres row.sections) (from_turn row.turn row.sections)

-- the train is longer than the sections of its move's route
abbrev pub is_too_long : Plant → ℕ → ℕ → Bool
is_too_long plant t m = not (nat_le (train plant t).kind.length (metres_of plant (needed plant t m)))

-- the first section that the next move claims on which the train stands after its move m
abbrev pub blocking : Plant → ℕ → ℕ → Option ℕ
blocking plant t m = find (λ x. is_in x (standing_after plant t m)) (claimed plant t (suc m))

-- the fault that a blocking section is
abbrev pub blocked_by : ℕ → ℕ → Option ℕ → Option PlanFault
blocked_by t place None = None
blocked_by t place (Some x) = Some (SelfBlocked t place x)

-- the fault of a train at the place after its move m: it is too long to stand there, or blocks its own way
abbrev pub fault_at : Plant → ℕ → ℕ → Option PlanFault
fault_at plant t m = or_else (cond (is_too_long plant t m) (Some (TooLong t (suc m))) None) (blocked_by t (suc m) (blocking plant t m))

-- that of a train of so many metres which makes these moves
abbrev pub fault_over : Plant → ℕ → ℕ → List MoveRow → ℕ → Option PlanFault
fault_over plant t metres rows m = let row = get_or rows m no_move in
    let next = get_or rows (suc m) no_move in
    or_else (cond (not (nat_le metres (metres_of plant row.sections))) (Some (TooLong t (suc m))) None)
    (blocked_by t (suc m) (find (λ x. is_in x (standing_of plant metres row)) (next.sections ++ next.overlap)))

-- the answer for the first of the numbers below the bound that has one
abbrev pub first_answer : {X : Type 0} → (ℕ → Option X) → ℕ → Option X
first_answer f zero = None
first_answer f (suc n) = or_else (first_answer f n) (f n)

-- the first fault of a train, at a place before its last
abbrev pub fault_of_train : Plant → ℕ → Option PlanFault
fault_of_train plant t = first_answer (fault_at plant t) (moves plant t - 1)

-- the first fault of the tables, train by train
abbrev pub fault_of : Tables → Option PlanFault
fault_of tables = first_answer (fault_of_train (bare tables)) (length tables.trains)

-- the refusal that a fault is
abbrev pub refusal_in : PlanFault → Option PlanFault
refusal_in OutOfMemory = None
refusal_in fault = Some fault

-- a fault answers the first refusal
abbrev pub IsAnswer : Option PlanFault → PlanFault → Type 0
IsAnswer first fault = IsFirstRefusal first (refusal_in fault)
