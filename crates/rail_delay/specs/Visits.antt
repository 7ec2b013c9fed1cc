-- When trains actually departed, arrived and left.
use Rattle.std.specs.Prelude.{ℕ, suc, ◌==◌, Bool, false, ◌&&◌, cond, List, [], ◌∷◌, slice_get, Option, Some, None}
use Rattle.std.specs.Option.{option_map_or}
use Rattle.rail_base.specs.declared.history.What.{What}
use Rattle.rail_base.specs.declared.history.What.TheVariants.{Arrive, Enter}
use Rattle.rail_rules.specs.Numbers.{listed}
use Rattle.rail_rules.specs.Plant.{Plant, moves, needed}
use Rattle.rail_rules.specs.Fronts.{Front}
use Rattle.rail_delay.specs.declared.visits.Visit.{Visit}

-- when a line of the front says so: the newest one
abbrev pub time_of : (What → Bool) → Front → Option ℕ
time_of says [] = None
time_of says (line ∷ before) = cond (says line.entry.what) (Some line.entry.at) (time_of says before)

-- the section is the first that the move, counted from 0, needs
abbrev pub is_first_section : Plant → ℕ → ℕ → ℕ → Bool
is_first_section plant t m x = option_map_or (λ (y : ℕ). y == x) (slice_get (needed plant t m) 0) false

-- the train departs on the move, counted from 0: its head enters the first section
abbrev pub is_departure : Plant → ℕ → ℕ → What → Bool
is_departure plant t m (Enter u n x) = (u == t) && (n == suc m) && is_first_section plant t m x
is_departure plant t m _ = false

-- the train arrives at the end of the move, counted from 0
abbrev pub is_arrival : ℕ → ℕ → What → Bool
is_arrival t m (Arrive u n) = (u == t) && (n == suc m)
is_arrival t m _ = false

-- when the train departed on a move and arrived at its end, as far as lines of the front say so
abbrev pub visit : Plant → Front → ℕ → ℕ → Visit
visit plant front t m = record { departed = time_of (is_departure plant t m) front; arrived = time_of (is_arrival t m) front }

-- the same of each move of the train
abbrev pub train_visits : Plant → Front → ℕ → List Visit
train_visits plant front t = listed (visit plant front t) (moves plant t)
