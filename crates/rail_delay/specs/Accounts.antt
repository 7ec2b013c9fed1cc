-- What is kept of the lines of a front for its report.
use Rattle.std.specs.Prelude.{◌≡◌, ℕ, List, Option, Some, None, map}
use Rattle.rail_base.specs.declared.orders.Command.{Command}
use Rattle.rail_base.specs.declared.orders.Order.{Order}
use Rattle.rail_base.specs.declared.orders.Order.TheVariants.{Cancel}
use Rattle.rail_rules.specs.Numbers.{listed}
use Rattle.rail_rules.specs.Plant.{Plant, trains}
use Rattle.rail_rules.specs.Fronts.{Front}
use Rattle.rail_rules.specs.Lawful.{is_out_line}
use Rattle.rail_rules.specs.Orders.{is_cancelled, told}
use Rattle.rail_delay.specs.declared.account.Account.{Account}
use Rattle.rail_delay.specs.declared.visits.Visit.{Visit}
use Rattle.rail_delay.specs.Visits.{time_of, train_visits}
use Rattle.rail_delay.specs.Waits.{held, held_for, holding, is_blocking, is_closure, is_stop, is_want_of_list, waits_since}

-- the account of a train: since when it waits and how it is held, how long it was held in all and by kind of cause, when
-- it was out, and whether it was cancelled
abbrev pub account : List Command → Front → ℕ → Account
account commands front t = record {
  waits_since = waits_since commands front t;
  holding = holding commands front t;
  held = held commands front t;
  stopped = held_for is_stop commands front t;
  closed = held_for is_closure commands front t;
  blocked = held_for is_blocking commands front t;
  no_list = held_for is_want_of_list commands front t;
  out = time_of (is_out_line t) front;
  cancelled = is_cancelled t (told commands front);
}

-- the accounts of the trains
abbrev pub accounts : Plant → List Command → Front → List Account
accounts plant commands front = listed (account commands front) (trains plant)

-- the visits of the trains
abbrev pub visits : Plant → Front → List (List Visit)
visits plant front = listed (train_visits plant front) (trains plant)

-- the train that an order cancels
abbrev pub cancelled_train : Order → Option ℕ
cancelled_train (Cancel t) = Some t
cancelled_train _ = None

-- what is kept: an account and the visits of each train, and for each command the train that it cancels
pub record Kept : Type 0 where
  pub accounts : List Account
  pub visits : List (List Visit)
  pub cancels : List (Option ℕ)

-- what is kept is that of the lines of the front
pub record AreNoted (plant : Plant) (commands : List Command) (front : Front) (kept : Kept) : Type 0 where
  pub accounts : kept.accounts ≡ accounts plant commands front
  pub visits : kept.visits ≡ visits plant front
  pub cancels : kept.cancels ≡ map (λ (command : Command). cancelled_train command.what) commands
