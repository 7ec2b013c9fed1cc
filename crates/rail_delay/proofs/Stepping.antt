-- What a line changes of an account.
use Rattle.std.proofs.Common.{◌≡◌, ℕ, zero, suc, ◌+◌, ◌-◌, ◌<◌, ◌^◌, Bool, true, false, ◌||◌, cond, eqb, is_some, List, [], ◌∷◌, ◌++◌, get_or, map, Option, Some, None, refl, sym, ap, ◌∙◌, arith}
use Rattle.std.specs.Prelude.{slice_get}
use Rattle.rail_base.specs.declared.history.Cause.{Cause}
use Rattle.rail_base.specs.declared.history.Cause.TheVariants.{Stopped, Closed, Blocked, NoList}
use Rattle.rail_base.specs.declared.history.What.{What}
use Rattle.rail_base.specs.declared.history.What.TheVariants.{Free, Arrive, Enter, Out, Ready, Told, Untold, Admit, Hold, End}
use Rattle.rail_base.specs.declared.orders.Command.{Command}
use Rattle.rail_base.specs.declared.orders.Order.{Order}
use Rattle.rail_base.specs.declared.orders.Order.TheVariants.{Policy, Retire, Close, Reopen, Stop, Go, Cancel, Priority}
use Rattle.rail_rules.specs.Numbers.{or_else}
use Rattle.rail_rules.specs.Fronts.{Front, Line}
use Rattle.rail_rules.specs.Lawful.{is_out_line}
use Rattle.rail_rules.specs.Orders.{is_cancelled, orders_at, orders_of, told}
use Rattle.rail_delay.specs.declared.account.Account.{Account}
use Rattle.rail_delay.specs.declared.account.OpenHold.{OpenHold}
use Rattle.rail_delay.specs.Accounts.{account, cancelled_train}
use Rattle.rail_delay.specs.Noting.{account_after, after_hold, after_wait, counted, is_this, with_hold, with_wait}
use Rattle.rail_delay.specs.Waits.{does_end_wait, holding_by, is_blocking, is_closure, is_in_order, is_stop, is_want_of_list, with_hold_until, with_wait_until}
use Rattle.rail_laws_step.specs.LineKinds.{is_ready_line}
use Rattle.rail_delay.proofs.Within.{held_for_within, held_within, ordered}

-- a number of 64 bits is counted as it is
counted_is : (n : ℕ) → n < 2 ^ 64 → n ≡ counted n
counted_is n lt = omega (arith, lt)

-- the sums of an account fit their counters also after a hold and a wait that end at a time
pub record Fits (at : ℕ) (kept : Account) : Type 0 where
  pub held : with_wait_until at kept.waits_since kept.held < 2 ^ 64
  pub stopped : with_hold_until is_stop at kept.holding kept.stopped < 2 ^ 64
  pub closed : with_hold_until is_closure at kept.holding kept.closed < 2 ^ 64
  pub blocked : with_hold_until is_blocking at kept.holding kept.blocked < 2 ^ 64
  pub no_list : with_hold_until is_want_of_list at kept.holding kept.no_list < 2 ^ 64

-- what each line changes, by what it says of the train
abbrev stepped : Bool → Bool → Bool → Bool → Option OpenHold → ℕ → Account → Account
stepped ends ready leaves cancels new at kept = record {
  waits_since = cond ends None (cond ready (Some at) kept.waits_since);
  holding = cond ends None (or_else new kept.holding);
  held = cond ends (with_wait_until at kept.waits_since kept.held) kept.held;
  stopped = cond (ends || is_some new) (with_hold_until is_stop at kept.holding kept.stopped) kept.stopped;
  closed = cond (ends || is_some new) (with_hold_until is_closure at kept.holding kept.closed) kept.closed;
  blocked = cond (ends || is_some new) (with_hold_until is_blocking at kept.holding kept.blocked) kept.blocked;
  no_list = cond (ends || is_some new) (with_hold_until is_want_of_list at kept.holding kept.no_list) kept.no_list;
  out = cond leaves (Some at) kept.out;
  cancelled = cancels;
}

-- the account whose hold ends, without counters
abbrev added : Option OpenHold → ℕ → Account → Account
added hold at kept = record kept {
  holding = None;
  stopped = with_hold_until is_stop at hold kept.stopped;
  closed = with_hold_until is_closure at hold kept.closed;
  blocked = with_hold_until is_blocking at hold kept.blocked;
  no_list = with_hold_until is_want_of_list at hold kept.no_list;
}

hold_by_cause : (why : Cause) (since at : ℕ) (kept : Account)
    → cond (is_stop why) (kept.stopped + (at - since)) kept.stopped < 2 ^ 64 → cond (is_closure why) (kept.closed + (at - since)) kept.closed < 2 ^ 64
    → cond (is_blocking why) (kept.blocked + (at - since)) kept.blocked < 2 ^ 64 → cond (is_want_of_list why) (kept.no_list + (at - since)) kept.no_list < 2 ^ 64
    → added (Some (record { since = since; cause = why })) at kept ≡ record (with_hold (Some (record { since = since; cause = why })) at kept) { holding = None }
hold_by_cause Stopped since at kept a b c d = ap (λ (n : ℕ). record kept { holding = None; stopped = n }) (counted_is (kept.stopped + (at - since)) a)
hold_by_cause (Closed x) since at kept a b c d = ap (λ (n : ℕ). record kept { holding = None; closed = n }) (counted_is (kept.closed + (at - since)) b)
hold_by_cause (Blocked x u) since at kept a b c d = ap (λ (n : ℕ). record kept { holding = None; blocked = n }) (counted_is (kept.blocked + (at - since)) c)
hold_by_cause NoList since at kept a b c d = ap (λ (n : ℕ). record kept { holding = None; no_list = n }) (counted_is (kept.no_list + (at - since)) d)

hold_ends : (hold : Option OpenHold) (at : ℕ) (kept : Account)
    → with_hold_until is_stop at hold kept.stopped < 2 ^ 64 → with_hold_until is_closure at hold kept.closed < 2 ^ 64
    → with_hold_until is_blocking at hold kept.blocked < 2 ^ 64 → with_hold_until is_want_of_list at hold kept.no_list < 2 ^ 64
    → added hold at kept ≡ record (with_hold hold at kept) { holding = None }
hold_ends None at kept a b c d = refl
hold_ends (Some hold) at kept a b c d = hold_by_cause hold.cause hold.since at kept a b c d

hold_ended : (at : ℕ) (kept : Account) → Fits at kept → added kept.holding at kept ≡ after_hold at kept
hold_ended at kept fits = hold_ends kept.holding at kept fits.stopped fits.closed fits.blocked fits.no_list

wait_ends : (since : Option ℕ) (at : ℕ) (kept : Account) → with_wait_until at since kept.held < 2 ^ 64
    → record kept { waits_since = None; held = with_wait_until at since kept.held } ≡ record (with_wait since at kept) { waits_since = None }
wait_ends None at kept lt = refl
wait_ends (Some since) at kept lt = ap (λ (n : ℕ). record kept { waits_since = None; held = n }) (counted_is (kept.held + (at - since)) lt)

-- the account whose wait ends, without counters
abbrev waited : ℕ → Account → Account
waited at kept = record (added kept.holding at kept) { waits_since = None; held = with_wait_until at kept.waits_since kept.held }

wait_ended : (at : ℕ) (kept : Account) → Fits at kept → waited at kept ≡ after_wait at kept
wait_ended at kept fits =
    wait_ends kept.waits_since at (added kept.holding at kept) fits.held
    ∙ ap (λ (k : Account). record (with_wait kept.waits_since at k) { waits_since = None }) (hold_ended at kept fits)

module _ (at : ℕ) (kept : Account) (fits : Fits at kept) where
  ready_step : (b : Bool) → stepped false b false kept.cancelled None at kept ≡ cond b (record kept { waits_since = Some at }) kept
  ready_step true = refl
  ready_step false = refl

  out_step : (b : Bool) → stepped false false b kept.cancelled None at kept ≡ cond b (record kept { out = Some at }) kept
  out_step true = refl
  out_step false = refl

  hold_step : (why : Cause) (b : Bool) → stepped false false false kept.cancelled (cond b (Some (record { since = at; cause = why })) None) at kept
      ≡ cond b (record (after_hold at kept) { holding = Some (record { since = at; cause = why }) }) kept
  hold_step why true = ap (λ (k : Account). record k { holding = Some (record { since = at; cause = why }) }) (hold_ended at kept fits)
  hold_step why false = refl

  admit_step : (b : Bool) → stepped ((b || false) || false) false false kept.cancelled None at kept ≡ cond b (after_wait at kept) kept
  admit_step true = wait_ended at kept fits
  admit_step false = refl

  cancel_step : (b : Bool) → stepped ((b || false) || false) false false (b || kept.cancelled) None at kept ≡ cond b (record (after_wait at kept) { cancelled = true }) kept
  cancel_step true = ap (λ (k : Account). record k { cancelled = true }) (wait_ended at kept fits)
  cancel_step false = refl

-- the train that a command cancels, where it is there
abbrev named : Option Command → Option ℕ
named None = None
named (Some command) = cancelled_train command.what

-- the table of trains that commands cancel
cancels_at : (commands : List Command) (k : ℕ) → get_or (map (λ (command : Command). cancelled_train command.what) commands) k None ≡ named (slice_get commands k)
cancels_at [] k = refl
cancels_at (command ∷ commands) zero = refl
cancels_at (command ∷ commands) (suc k) = cancels_at commands k

module _ (commands : List Command) (front : Front) (t at : ℕ) (fits : Fits at (account commands front t)) where
  order_step : (order : Order) → stepped (is_cancelled t (order ∷ []) || false) false false (is_cancelled t (order ∷ told commands front)) None at (account commands front t)
      ≡ cond (is_this t (cancelled_train order)) (record (after_wait at (account commands front t)) { cancelled = true }) (account commands front t)
  order_step (Policy name) = refl
  order_step (Retire name) = refl
  order_step (Close x) = refl
  order_step (Reopen x) = refl
  order_step (Stop u) = refl
  order_step (Go u) = refl
  order_step (Cancel u) = cancel_step at (account commands front t) fits (eqb u t)
  order_step (Priority u n) = refl

  told_step : (o : Option Command) → stepped (is_cancelled t (orders_at o) || false) false false (is_cancelled t (orders_at o ++ told commands front)) None at (account commands front t)
      ≡ cond (is_this t (named o)) (record (after_wait at (account commands front t)) { cancelled = true }) (account commands front t)
  told_step None = refl
  told_step (Some command) = order_step command.what

  what_step : (what : What) → stepped (does_end_wait commands t what) (is_ready_line t what) (is_out_line t what)
      (is_cancelled t (orders_of commands what ++ told commands front)) (holding_by t at what) at (account commands front t)
      ≡ account_after (map (λ (command : Command). cancelled_train command.what) commands) at what t (account commands front t)
  what_step (Free x u) = refl
  what_step (Arrive u m) = refl
  what_step (Enter u m x) = refl
  what_step (Out u) = out_step at (account commands front t) fits (eqb u t)
  what_step (Ready u m) = ready_step at (account commands front t) fits (eqb u t)
  what_step (Told k) = told_step (slice_get commands (k - 1))
      ∙ ap (λ (o : Option ℕ). cond (is_this t o) (record (after_wait at (account commands front t)) { cancelled = true }) (account commands front t)) (sym (cancels_at commands (k - 1)))
  what_step (Untold k) = refl
  what_step (Admit u m note) = admit_step at (account commands front t) fits (eqb u t)
  what_step (Hold u m why) = hold_step at (account commands front t) fits why (eqb u t)
  what_step End = wait_ended at (account commands front t) fits

-- the sums of a front in order fit
pub fitting : (commands : List Command) (line : Line) (front : Front) (t : ℕ) → is_in_order (line ∷ front) ≡ true → line.entry.at < 2 ^ 64 → Fits line.entry.at (account commands front t)
fitting commands line front t is lt =
    let order = ordered line front is in
    record {
      held = omega (arith, held_within commands t front order.before line.entry.at order.rises, lt);
      stopped = omega (arith, held_for_within is_stop commands t front order.before line.entry.at order.rises, lt);
      closed = omega (arith, held_for_within is_closure commands t front order.before line.entry.at order.rises, lt);
      blocked = omega (arith, held_for_within is_blocking commands t front order.before line.entry.at order.rises, lt);
      no_list = omega (arith, held_for_within is_want_of_list commands t front order.before line.entry.at order.rises, lt);
    }

-- the account of a train after one more line
pub step : (commands : List Command) (line : Line) (front : Front) (t : ℕ) → is_in_order (line ∷ front) ≡ true → line.entry.at < 2 ^ 64
    → account commands (line ∷ front) t
    ≡ account_after (map (λ (command : Command). cancelled_train command.what) commands) line.entry.at line.entry.what t (account commands front t)
step commands line front t is lt = what_step commands front t line.entry.at (fitting commands line front t is lt) line.entry.what
