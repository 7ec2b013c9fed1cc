-- A plant with its calls, and what its moves need.
use Rattle.std.specs.Prelude.{◌≡◌, ℕ, zero, suc, ◌+◌, ◌-◌, ◌*◌, min, max, Bool, false, ◌&&◌, ◌||◌, cond, nat_lt, nat_le, is_some, List, [], ◌∷◌, ◌++◌, length, get_or, drop, sum_by, Option, Some, None}
use Rattle.std.specs.Option.{option_map_or}
use Rattle.rail_base.specs.declared.plant.Tables.{Tables}
use Rattle.rail_base.specs.declared.plant.SectionRow.{SectionRow}
use Rattle.rail_base.specs.declared.plant.TrainRow.{TrainRow}
use Rattle.rail_base.specs.declared.plant.TrainKind.{TrainKind}
use Rattle.rail_base.specs.declared.plant.MoveRow.{MoveRow}
use Rattle.rail_base.specs.declared.plant.TurnRow.{TurnRow}
use Rattle.rail_base.specs.declared.plant.Call.{Call}
use Rattle.rail_rules.specs.Numbers.{sum_below, quotient_up}
use Rattle.rail_rules.specs.Moves.{Moves}

-- a plant: its tables, and for each train the calls at the ends of its moves
pub record Plant : Type 0 where
  pub tables : Tables
  pub calls : List (List (Option Call))

-- what stands for a section that the plant doesn't have
abbrev pub no_section : SectionRow
no_section = record { name = []; length = 0; speed = 0 }

-- what stands for a kind of train that the plant doesn't have
abbrev pub no_kind : TrainKind
no_kind = record { name = []; length = 0; speed = 0; start = 0; stop = 0 }

-- what stands for a train that the plant doesn't have
abbrev pub no_train : TrainRow
no_train = record { name = []; kind = no_kind; entry = 0; priority = 0; moves = [] }

-- what stands for a move that a train doesn't have
abbrev pub no_move : MoveRow
no_move = record { sections = []; overlap = []; setting = 0; watching = 0; approach = 0; turn = None }

-- a section by its number
abbrev pub section : Plant → ℕ → SectionRow
section plant x = get_or plant.tables.sections x no_section

-- how many trains there are
abbrev pub trains : Plant → ℕ
trains plant = length plant.tables.trains

-- a train by its number
abbrev pub train : Plant → ℕ → TrainRow
train plant t = get_or plant.tables.trains t no_train

-- how many moves the train has
abbrev pub moves : Plant → ℕ → ℕ
moves plant t = length (train plant t).moves

-- a move of the train, counted from 0
abbrev pub move_row : Plant → ℕ → ℕ → MoveRow
move_row plant t m = get_or (train plant t).moves m no_move

-- the needed sections of the move, in route order
abbrev pub needed : Plant → ℕ → ℕ → List ℕ
needed plant t m = (move_row plant t m).sections

-- the sections of the overlap beyond the end of its route, in order
abbrev pub overlap : Plant → ℕ → ℕ → List ℕ
overlap plant t m = (move_row plant t m).overlap

-- the sections that the move takes as a whole: those that it needs, and then those of the overlap
abbrev pub claimed : Plant → ℕ → ℕ → List ℕ
claimed plant t m = needed plant t m ++ overlap plant t m

-- no route has an overlap
abbrev pub HasNoOverlaps : Plant → Type 0
HasNoOverlaps plant = (t m : ℕ) → overlap plant t m ≡ []

-- how many steps the move has
abbrev pub steps : Plant → ℕ → ℕ → ℕ
steps plant t m = length (needed plant t m)

-- how many sections the move claims
abbrev pub claims : Plant → ℕ → ℕ → ℕ
claims plant t m = length (claimed plant t m)

-- the section of a step of the move, counted from 0; behind its steps come those of the overlap
abbrev pub step_section : Plant → ℕ → ℕ → ℕ → ℕ
step_section plant t m j = get_or (claimed plant t m) j 0

-- the shortest end of the sections that is at least as long as the train
abbrev pub shortest_end : Plant → ℕ → List ℕ → List ℕ
shortest_end plant train_length [] = []
shortest_end plant train_length (x ∷ xs) = let shorter = shortest_end plant train_length xs in
    cond (nat_le train_length (sum_by (λ y. (section plant y).length) xs)) shorter (x ∷ xs)

-- the sections from the turn step of the move on, where its end has a turn
abbrev pub from_turn : Option TurnRow → List ℕ → List ℕ
from_turn None sections = []
from_turn (Some turn) sections = drop (turn.step - 1) sections

-- the longer of two lists of sections, the first where they are as long
abbrev pub longer : List ℕ → List ℕ → List ℕ
longer xs ys = cond (nat_lt (length xs) (length ys)) ys xs

-- the standing set after a move: the shortest end of its route that is as long as the
-- train and, where there is a turn, begins at the turn step or before
abbrev pub standing_after : Plant → ℕ → ℕ → List ℕ
standing_after plant t m = longer (shortest_end plant (train plant t).kind.length (needed plant t m))
    (from_turn (move_row plant t m).turn (needed plant t m))

-- what the analysis knows of the plant
abbrev pub moves_of : Plant → Moves
moves_of plant = record { trains = trains plant; moves = moves plant; claim = claimed plant; standing = standing_after plant }

-- the call at the end of the move, where there is one
abbrev pub call_after : Plant → ℕ → ℕ → Option Call
call_after plant t m = get_or (get_or plant.calls t []) m None

-- a place is forced where a stop call or a turn is at the end of the move before it; the first and the last place aren't
abbrev pub is_forced : Plant → ℕ → ℕ → Bool
is_forced plant t zero = false
is_forced plant t (suc m) = nat_lt (suc m) (moves plant t)
    && (is_some (move_row plant t m).turn || option_map_or (λ (call : Call). call.stops) (call_after plant t m) false)

-- the least standing time at a place, by its call and its turn
abbrev pub dwell : Plant → ℕ → ℕ → ℕ
dwell plant t zero = 0
dwell plant t (suc m) = max (option_map_or (λ (call : Call). call.dwell) (call_after plant t m) 0)
    (option_map_or (λ (turn : TurnRow). turn.time) (move_row plant t m).turn 0)

-- the departure of the call at a place, or 0
abbrev pub departure : Plant → ℕ → ℕ → ℕ
departure plant t zero = 0
departure plant t (suc m) = option_map_or (λ (call : Call). option_map_or (λ (at : ℕ). at) call.departure 0) (call_after plant t m) 0

-- the running time of the train over a section: 36 * length / speed tenths of a second, by the lesser speed
abbrev pub run_time : TrainKind → SectionRow → ℕ
run_time kind row = quotient_up (36 * row.length) (min kind.speed row.speed)

-- the clearing time: what the train needs for its own length, by the lesser speed
abbrev pub clear_time : TrainKind → SectionRow → ℕ
clear_time kind row = quotient_up (36 * kind.length) (min kind.speed row.speed)

-- the running time over the first steps of a move
abbrev pub run_over : Plant → ℕ → ℕ → ℕ → ℕ
run_over plant t m steps = sum_below (λ j. run_time (train plant t).kind (section plant (step_section plant t m j))) steps

-- how many lines a move has at most, hold lines aside: its head enters each section, each one that
-- it claims is freed, and it is ready, admitted and arrives
abbrev pub move_lines : Plant → ℕ → ℕ → ℕ
move_lines plant t m = steps plant t m + claims plant t m + 3

-- how many lines a history has at most, hold lines aside: those of all moves, that a train is out, those of the commands, and the end line
abbrev pub bound : Plant → ℕ → ℕ
bound plant commands = sum_below (λ t. sum_below (move_lines plant t) (moves plant t)) (trains plant) + trains plant + commands + 1
