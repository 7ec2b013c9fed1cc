-- The text of a report.
use Rattle.std.specs.Prelude.{ℕ, suc, ◌+◌, ◌-◌, is_some, List, [], ◌∷◌, ◌++◌, codes, decimal, get_or, Option, Some, None, false}
use Rattle.std.specs.List.{count_by, sum_by}
use Rattle.rail_base.specs.declared.orders.Command.{Command}
use Rattle.rail_base.specs.declared.plant.Call.{Call}
use Rattle.rail_rules.specs.Numbers.{gather, sum_below}
use Rattle.rail_rules.specs.Plant.{Plant, call_after, moves, train, trains}
use Rattle.rail_rules.specs.Fronts.{Front}
use Rattle.rail_rules.specs.Texts.{spaced, train_word}
use Rattle.rail_text.specs.Words.{number_word, time_word}
use Rattle.rail_delay.specs.declared.account.Account.{Account}
use Rattle.rail_delay.specs.declared.visits.Visit.{Visit}
use Rattle.rail_delay.specs.Accounts.{accounts, visits}

-- what stands for an account that is not there
abbrev pub no_account : Account
no_account = record {
  waits_since = None;
  holding = None;
  held = 0;
  stopped = 0;
  closed = 0;
  blocked = 0;
  no_list = 0;
  out = None;
  cancelled = false;
}

-- what stands for a visit that is not there
abbrev pub no_visit : Visit
no_visit = record { departed = None; arrived = None }

-- the visits of a train
abbrev pub visits_of : List (List Visit) → ℕ → List Visit
visits_of rows t = get_or rows t []

-- the visit of a move, counted from 0; there is none behind the last move
abbrev pub visit_of : List Visit → ℕ → Visit
visit_of row m = get_or row m no_visit

-- how late something was, in tenths of a second, where both times are there; what was early is not late
abbrev pub lateness : Option ℕ → Option ℕ → Option ℕ
lateness (Some planned) (Some actual) = Some (actual - planned)
lateness _ _ = None

-- the planned and the actual time, and how late
abbrev pub times_words : Option ℕ → Option ℕ → List (List ℕ)
times_words planned actual = time_word planned ∷ time_word actual ∷ number_word (lateness planned actual) ∷ []

-- the words of a call at the end of a move, counted from 0: the arrival there, and the departure on the next move
abbrev pub call_words : Plant → ℕ → ℕ → List Visit → Call → List (List ℕ)
call_words plant t m row call = codes "call" ∷ train_word plant t ∷ decimal (suc m)
    ∷ codes "arr" ∷ times_words call.arrival (visit_of row m).arrived
    ++ codes "dep" ∷ times_words call.departure (visit_of row (suc m)).departed

-- the line of a call, where there is one
abbrev pub call_line : Plant → ℕ → List Visit → ℕ → Option Call → List ℕ
call_line plant t row m None = []
call_line plant t row m (Some call) = spaced (call_words plant t m row call)

-- the lines of the calls of a train, by place
abbrev pub call_lines : Plant → List (List Visit) → ℕ → List ℕ
call_lines plant rows t = gather (λ m. call_line plant t (visits_of rows t) m (call_after plant t m)) (moves plant t)

-- the words of a train's entry
abbrev pub entry_words : Plant → ℕ → List Visit → List (List ℕ)
entry_words plant t row = codes "entry" ∷ times_words (Some (train plant t).entry) (visit_of row 0).departed

-- the words of how long a train was held
abbrev pub held_words : Account → List (List ℕ)
held_words held_so = codes "held" ∷ decimal held_so.held ∷ codes "stopped" ∷ decimal held_so.stopped ∷ codes "closed" ∷ decimal held_so.closed
    ∷ codes "blocked" ∷ decimal held_so.blocked ∷ codes "nolist" ∷ decimal held_so.no_list ∷ []

-- the words of a train
abbrev pub train_words : Plant → ℕ → List Visit → Account → List (List ℕ)
train_words plant t row kept = codes "train" ∷ train_word plant t
    ∷ entry_words plant t row ++ codes "out" ∷ time_word kept.out ∷ held_words kept

-- the line of a train
abbrev pub train_line : Plant → List Account → List (List Visit) → ℕ → List ℕ
train_line plant all rows t = spaced (train_words plant t (visits_of rows t) (get_or all t no_account))

-- a number that may be missing counts as 0 then
abbrev pub late_number : Option ℕ → ℕ
late_number None = 0
late_number (Some late) = late

-- how late a train was at a call, at its arrival and its departure together
abbrev pub call_late : List Visit → ℕ → Option Call → ℕ
call_late row m None = 0
call_late row m (Some call) = late_number (lateness call.arrival (visit_of row m).arrived)
    + late_number (lateness call.departure (visit_of row (suc m)).departed)

-- how late a train was at its entry and all its calls together
abbrev pub train_late : Plant → List (List Visit) → ℕ → ℕ
train_late plant rows t = late_number (lateness (Some (train plant t).entry) (visit_of (visits_of rows t) 0).departed)
    + sum_below (λ m. call_late (visits_of rows t) m (call_after plant t m)) (moves plant t)

-- the words of the totals
abbrev pub total_words : Plant → List Account → List (List Visit) → List (List ℕ)
total_words plant all rows = codes "total" ∷ codes "trains" ∷ decimal (trains plant)
    ∷ codes "out" ∷ decimal (count_by (λ (kept : Account). is_some kept.out) all)
    ∷ codes "cancelled" ∷ decimal (count_by (λ (kept : Account). kept.cancelled) all)
    ∷ codes "late" ∷ decimal (sum_below (train_late plant rows) (trains plant))
    ∷ codes "held" ∷ decimal (sum_by (λ (kept : Account). kept.held) all) ∷ []

-- the report of accounts and visits: the calls by train and place, the trains, and the totals
abbrev pub report_of : Plant → List Account → List (List Visit) → List ℕ
report_of plant all rows = gather (call_lines plant rows) (trains plant)
    ++ gather (train_line plant all rows) (trains plant)
    ++ spaced (total_words plant all rows)

-- the report of a history
abbrev pub report_text : Plant → List Command → Front → List ℕ
report_text plant commands front = report_of plant (accounts plant commands front) (visits plant front)
