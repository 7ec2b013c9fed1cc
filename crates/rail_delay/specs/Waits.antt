-- How long trains wait for their next move to be admitted, in all and by kind of cause.
use Rattle.std.specs.Prelude.{ℕ, ◌+◌, ◌-◌, ◌==◌, Bool, true, false, ◌&&◌, ◌||◌, cond, nat_le, is_some, List, [], ◌∷◌, Option, Some, None}
use Rattle.rail_base.specs.declared.history.What.{What}
use Rattle.rail_base.specs.declared.history.What.TheVariants.{Hold}
use Rattle.rail_base.specs.declared.history.Cause.{Cause}
use Rattle.rail_base.specs.declared.history.Cause.TheVariants.{Stopped, Closed, Blocked, NoList}
use Rattle.rail_base.specs.declared.orders.Command.{Command}
use Rattle.rail_rules.specs.Numbers.{or_else}
use Rattle.rail_rules.specs.Fronts.{Front, admits, instant, is_end}
use Rattle.rail_rules.specs.Orders.{is_cancelled, orders_of}
use Rattle.rail_laws_step.specs.LineKinds.{is_ready_line}
use Rattle.rail_delay.specs.declared.account.OpenHold.{OpenHold}

-- the line ends a wait of the train: its admission, its told cancel, or the end of the history
abbrev pub does_end_wait : List Command → ℕ → What → Bool
does_end_wait commands t what = admits t what || is_cancelled t (orders_of commands what) || is_end what

-- since when the train waits: since its ready line, as long as no line ended that wait
abbrev pub waits_since : List Command → Front → ℕ → Option ℕ
waits_since commands [] t = None
waits_since commands (line ∷ before) t = cond (does_end_wait commands t line.entry.what) None
    (cond (is_ready_line t line.entry.what) (Some line.entry.at) (waits_since commands before t))

-- a sum with the time of a wait that began at an instant, where there is one
abbrev pub with_wait_until : ℕ → Option ℕ → ℕ → ℕ
with_wait_until now None sum = sum
with_wait_until now (Some since) sum = sum + (now - since)

-- how long the train was held: the sum of its waits, each from its ready line to the line that ends it
abbrev pub held : List Command → Front → ℕ → ℕ
held commands [] t = 0
held commands (line ∷ before) t = cond (does_end_wait commands t line.entry.what)
    (with_wait_until line.entry.at (waits_since commands before t) (held commands before t))
    (held commands before t)

-- what a hold line of the train at a time says
abbrev pub holding_by : ℕ → ℕ → What → Option OpenHold
holding_by t at (Hold u m why) = cond (u == t) (Some (record { since = at; cause = why })) None
holding_by t at _ = None

-- how the train is held: as its last hold line says, as long as no line ended that wait
abbrev pub holding : List Command → Front → ℕ → Option OpenHold
holding commands [] t = None
holding commands (line ∷ before) t = cond (does_end_wait commands t line.entry.what) None
    (or_else (holding_by t line.entry.at line.entry.what) (holding commands before t))

-- the line ends a hold of the train: its next hold line, or the line that ends its wait
abbrev pub does_end_hold : List Command → ℕ → ℕ → What → Bool
does_end_hold commands t at what = does_end_wait commands t what || is_some (holding_by t at what)

-- the cause is a stop command in force
abbrev pub is_stop : Cause → Bool
is_stop Stopped = true
is_stop _ = false

-- the cause is a closed section
abbrev pub is_closure : Cause → Bool
is_closure (Closed x) = true
is_closure _ = false

-- the cause is a blocked section
abbrev pub is_blocking : Cause → Bool
is_blocking (Blocked x u) = true
is_blocking _ = false

-- the cause is the want of a list
abbrev pub is_want_of_list : Cause → Bool
is_want_of_list NoList = true
is_want_of_list _ = false

-- a sum with the time of a hold, where it is by a cause of this kind
abbrev pub with_hold_until : (Cause → Bool) → ℕ → Option OpenHold → ℕ → ℕ
with_hold_until kind now None sum = sum
with_hold_until kind now (Some hold) sum = cond (kind hold.cause) (sum + (now - hold.since)) sum

-- how long the train was held by causes of this kind: the sum from each such hold line to the line that ends the hold
abbrev pub held_for : (Cause → Bool) → List Command → Front → ℕ → ℕ
held_for kind commands [] t = 0
held_for kind commands (line ∷ before) t = cond (does_end_hold commands t line.entry.at line.entry.what)
    (with_hold_until kind line.entry.at (holding commands before t) (held_for kind commands before t))
    (held_for kind commands before t)

-- how long the train was held by causes of the four kinds together
abbrev pub held_by_kinds : List Command → Front → ℕ → ℕ
held_by_kinds commands front t = held_for is_stop commands front t + held_for is_closure commands front t
    + held_for is_blocking commands front t + held_for is_want_of_list commands front t

-- no line is earlier than the line before it
abbrev pub is_in_order : Front → Bool
is_in_order [] = true
is_in_order (line ∷ before) = is_in_order before && nat_le (instant before) line.entry.at
