-- What a line changes of what is kept.
use Rattle.std.specs.Prelude.{◌≡◌, ℕ, ◌+◌, ◌-◌, ◌<◌, ◌^◌, ◌==◌, min, Bool, true, false, cond, List, length, get_or, Option, Some, None}
use Rattle.std.specs.Option.{option_map_or}
use Rattle.rail_base.specs.declared.history.Cause.{Cause}
use Rattle.rail_base.specs.declared.history.Cause.TheVariants.{Stopped, Closed, Blocked, NoList}
use Rattle.rail_base.specs.declared.history.Entry.{Entry}
use Rattle.rail_base.specs.declared.history.What.{What}
use Rattle.rail_base.specs.declared.history.What.TheVariants.{Out, Ready, Told, Admit, Hold, End}
use Rattle.rail_rules.specs.Plant.{Plant}
use Rattle.rail_delay.specs.declared.account.Account.{Account}
use Rattle.rail_delay.specs.declared.account.OpenHold.{OpenHold}
use Rattle.rail_delay.specs.declared.visits.Visit.{Visit}
use Rattle.rail_delay.specs.Reports.{no_account, visit_of, visits_of}
use Rattle.rail_delay.specs.Visits.{is_arrival, is_departure}

-- a sum as a counter of 64 bits holds it, which stands still at its end
abbrev pub counted : ℕ → ℕ
counted n = min n (2 ^ 64 - 1)

-- the account with more time held for a cause
abbrev pub with_time : Cause → ℕ → Account → Account
with_time Stopped time kept = record kept { stopped = counted (kept.stopped + time) }
with_time (Closed x) time kept = record kept { closed = counted (kept.closed + time) }
with_time (Blocked x u) time kept = record kept { blocked = counted (kept.blocked + time) }
with_time NoList time kept = record kept { no_list = counted (kept.no_list + time) }

-- the account with the time of a hold that ends
abbrev pub with_hold : Option OpenHold → ℕ → Account → Account
with_hold None at kept = kept
with_hold (Some hold) at kept = with_time hold.cause (at - hold.since) kept

-- the account with the time of a wait that ends
abbrev pub with_wait : Option ℕ → ℕ → Account → Account
with_wait None at kept = kept
with_wait (Some since) at kept = record kept { held = counted (kept.held + (at - since)) }

-- the account of a train whose hold ends
abbrev pub after_hold : ℕ → Account → Account
after_hold at kept = record (with_hold kept.holding at kept) { holding = None }

-- the account of a train whose wait ends
abbrev pub after_wait : ℕ → Account → Account
after_wait at kept = record (with_wait kept.waits_since at (after_hold at kept)) { waits_since = None }

-- the account of a train after a line that is of it
abbrev pub after_line : ℕ → What → Account → Account
after_line at (Ready u m) kept = record kept { waits_since = Some at }
after_line at (Hold u m why) kept = record (after_hold at kept) { holding = Some (record { since = at; cause = why }) }
after_line at (Admit u m note) kept = after_wait at kept
after_line at (Out u) kept = record kept { out = Some at }
after_line at (Told k) kept = record (after_wait at kept) { cancelled = true }
after_line at End kept = after_wait at kept
after_line at _ kept = kept

-- the train that a line is of, where its account changes by it; a told line is of the train that it cancels
abbrev pub train_of : List (Option ℕ) → What → Option ℕ
train_of cancels (Ready u m) = Some u
train_of cancels (Hold u m why) = Some u
train_of cancels (Admit u m note) = Some u
train_of cancels (Out u) = Some u
train_of cancels (Told k) = get_or cancels (k - 1) None
train_of cancels _ = None

-- it is this train
abbrev pub is_this : ℕ → Option ℕ → Bool
is_this t named = option_map_or (λ (u : ℕ). u == t) named false

-- the account of a train after a line: an end line is of each train
abbrev pub account_after : List (Option ℕ) → ℕ → What → ℕ → Account → Account
account_after cancels at End t kept = after_line at End kept
account_after cancels at what t kept = cond (is_this t (train_of cancels what)) (after_line at what kept) kept

-- the visit of a move after a line
abbrev pub visit_after : Plant → ℕ → What → ℕ → ℕ → Visit → Visit
visit_after plant at what t m was = record {
  departed = cond (is_departure plant t m what) (Some at) was.departed;
  arrived = cond (is_arrival t m what) (Some at) was.arrived;
}

-- the account of a train in a list
abbrev pub account_of : List Account → ℕ → Account
account_of all t = get_or all t no_account

-- the accounts after a line
pub record AreAccountsAfter (cancels : List (Option ℕ)) (at : ℕ) (what : What) (old new : List Account) : Type 0 where
  pub trains : length new ≡ length old
  pub each : (t : ℕ) → t < length old → account_of new t ≡ account_after cancels at what t (account_of old t)

-- the visits after a line
pub record AreVisitsAfter (plant : Plant) (entry : Entry) (old new : List (List Visit)) : Type 0 where
  pub trains : length new ≡ length old
  pub moves : (t : ℕ) → t < length old → length (visits_of new t) ≡ length (visits_of old t)
  pub each : (t m : ℕ) → t < length old → m < length (visits_of old t)
      → visit_of (visits_of new t) m ≡ visit_after plant entry.at entry.what t m (visit_of (visits_of old t) m)
