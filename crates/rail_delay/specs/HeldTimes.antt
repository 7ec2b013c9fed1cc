-- How long trains were held, told by the moves for which they waited and by their hold lines.
use Rattle.std.specs.Prelude.{ℕ, ◌+◌, ◌-◌, ◌==◌, Bool, true, false, ◌&&◌, ◌||◌, cond, nat_lt, List, [], ◌∷◌, ◌++◌, length, Option, Some, None}
use Rattle.rail_base.specs.declared.history.What.{What}
use Rattle.rail_base.specs.declared.history.What.TheVariants.{Hold}
use Rattle.rail_base.specs.declared.history.Cause.{Cause}
use Rattle.rail_base.specs.declared.orders.Command.{Command}
use Rattle.rail_rules.specs.Numbers.{or_else, sum_below}
use Rattle.rail_rules.specs.Plant.{Plant, moves}
use Rattle.rail_rules.specs.Fronts.{Front, Line, admissions, admits, is_end}
use Rattle.rail_rules.specs.Orders.{is_cancelled, orders_of}
use Rattle.rail_rules.specs.Times.{admitted, ready}

-- when a line of the front says so for the first time: the oldest one
abbrev pub first_time : (What → Bool) → Front → Option ℕ
first_time says [] = None
first_time says (line ∷ before) = or_else (first_time says before) (cond (says line.entry.what) (Some line.entry.at) None)

-- the time from one instant to another, where there is another
abbrev pub time_until : Option ℕ → ℕ → ℕ
time_until None from = 0
time_until (Some end) from = end - from

-- the line tells a cancel of the train
abbrev pub is_cancel_of : List Command → ℕ → What → Bool
is_cancel_of commands t what = is_cancelled t (orders_of commands what)

-- how long the train waited for an admitted move: from the ready time of the move to its admission
abbrev pub move_wait : Plant → ℕ → List ℕ → ℕ → ℕ
move_wait plant t adms m = admitted adms m - ready plant t adms m

-- until when a train may wait at the most: its told cancel, or else the end line
abbrev pub waits_until : List Command → Front → ℕ → Option ℕ
waits_until commands front t = or_else (first_time (is_cancel_of commands t) front) (first_time is_end front)

-- how long the train waited for the move after its admitted ones: from the ready time of the move to its told cancel, or else the end line
abbrev pub open_wait : Plant → List Command → Front → ℕ → ℕ
open_wait plant commands front t =
    let adms : List ℕ = admissions front t in
    cond (nat_lt (length adms) (moves plant t)) (time_until (waits_until commands front t) (ready plant t adms (length adms))) 0

-- how long the train waited for its moves: for each admitted one, and for the one after them
abbrev pub move_waits : Plant → List Command → Front → ℕ → ℕ
move_waits plant commands front t =
    let adms : List ℕ = admissions front t in
    sum_below (move_wait plant t adms) (length adms) + open_wait plant commands front t

-- the line is a hold line of the train, by a cause of this kind
abbrev pub is_hold_by : (Cause → Bool) → ℕ → What → Bool
is_hold_by kind t (Hold u m why) = (u == t) && kind why
is_hold_by kind t _ = false

-- a hold of the train lasts no longer than to this line: its next hold line, its admission, its told cancel, or the end line
abbrev pub is_hold_over : List Command → ℕ → What → Bool
is_hold_over commands t what = is_hold_by (λ why. true) t what || admits t what || is_cancel_of commands t what || is_end what

-- the span of a line with such lines behind it: from a hold line of this kind to the first line behind it at which the hold is over
abbrev pub hold_span : (Cause → Bool) → List Command → ℕ → Front → Line → ℕ
hold_span kind commands t behind line =
    cond (is_hold_by kind t line.entry.what) (time_until (first_time (is_hold_over commands t) behind) line.entry.at) 0

-- the sum of the spans of a front's lines, where such lines stand behind the front
abbrev pub spans_before : (Cause → Bool) → List Command → ℕ → Front → Front → ℕ
spans_before kind commands t behind [] = 0
spans_before kind commands t behind (line ∷ before) =
    hold_span kind commands t behind line + spans_before kind commands t (behind ++ line ∷ []) before

-- the sum of the spans from each hold line of the train by a cause of this kind to the line at which the hold is over
abbrev pub hold_spans : (Cause → Bool) → List Command → Front → ℕ → ℕ
hold_spans kind commands front t = spans_before kind commands t [] front
