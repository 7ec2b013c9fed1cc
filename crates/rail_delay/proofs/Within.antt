-- The sums of an account reach no further than the instant of the front.
use Rattle.std.proofs.Common.{◌≡◌, ℕ, ◌+◌, ◌-◌, ◌≤◌, Bool, true, false, ◌||◌, cond, leb, is_some, List, [], ◌∷◌, Option, Some, None, refl, arith}
use Rattle.std.proofs.lemmas.Bool.{and_parts, leb-true}
use Rattle.rail_base.specs.declared.history.Cause.{Cause}
use Rattle.rail_base.specs.declared.orders.Command.{Command}
use Rattle.rail_rules.specs.Numbers.{or_else}
use Rattle.rail_rules.specs.Fronts.{Front, Line, instant}
use Rattle.rail_delay.specs.declared.account.OpenHold.{OpenHold}
use Rattle.rail_delay.proofs.Holds.{since_now}
use Rattle.rail_delay.specs.Waits.{does_end_wait, held, held_for, holding, holding_by, is_in_order, waits_since, with_hold_until, with_wait_until}
use Rattle.rail_laws_step.specs.LineKinds.{is_ready_line}

-- a front in order: the lines before the last one are, and it is not earlier
pub record IsOrdered (line : Line) (front : Front) : Type 0 where
  pub before : is_in_order front ≡ true
  pub rises : instant front ≤ line.entry.at

pub ordered : (line : Line) (front : Front) → is_in_order (line ∷ front) ≡ true → IsOrdered line front
ordered line front is =
    let both = and_parts (is_in_order front) (leb (instant front) line.entry.at) is in
    record { before = both.0; rises = leb-true (instant front) line.entry.at both.1 }

-- what a train was held with the wait that goes on is not more than the time
pub held_within : (commands : List Command) (t : ℕ) (front : Front) → is_in_order front ≡ true → (now : ℕ) → instant front ≤ now
    → with_wait_until now (waits_since commands front t) (held commands front t) ≤ now
held_within commands t [] is now le = omega arith
held_within commands t (line ∷ before) is now le =
    let order = ordered line before is in
    by (does_end_wait commands t line.entry.what) (is_ready_line t line.entry.what) (waits_since commands before t) (held commands before t)
    (held_within commands t before order.before line.entry.at order.rises)
    (held_within commands t before order.before now (omega (arith, order.rises, le)))
  where
    by : (ends ready : Bool) (since : Option ℕ) (sum : ℕ) → with_wait_until line.entry.at since sum ≤ line.entry.at → with_wait_until now since sum ≤ now
        → with_wait_until now (cond ends None (cond ready (Some line.entry.at) since)) (cond ends (with_wait_until line.entry.at since sum) sum) ≤ now
    by true ready since sum then later = omega (arith, then, le)
    by false true None sum then later = omega (arith, then, le)
    by false true (Some since) sum then later = omega (arith, then, le)
    by false false since sum then later = later

-- what a train was held by a kind of cause with the hold that goes on is not more than the time
pub held_for_within : (kind : Cause → Bool) (commands : List Command) (t : ℕ) (front : Front) → is_in_order front ≡ true → (now : ℕ) → instant front ≤ now
    → with_hold_until kind now (holding commands front t) (held_for kind commands front t) ≤ now
held_for_within kind commands t [] is now le = omega arith
held_for_within kind commands t (line ∷ before) is now le =
    let order = ordered line before is in
    by (does_end_wait commands t line.entry.what) (holding_by t line.entry.at line.entry.what) (since_now t line.entry.at line.entry.what) (holding commands before t) (held_for kind commands before t)
    (held_for_within kind commands t before order.before line.entry.at order.rises)
    (held_for_within kind commands t before order.before now (omega (arith, order.rises, le)))
  where
    by : (ends : Bool) (new : Option OpenHold) → ((hold : OpenHold) → new ≡ Some hold → hold.since ≡ line.entry.at) → (old : Option OpenHold) (sum : ℕ)
        → with_hold_until kind line.entry.at old sum ≤ line.entry.at → with_hold_until kind now old sum ≤ now
        → with_hold_until kind now (cond ends None (or_else new old)) (cond (ends || is_some new) (with_hold_until kind line.entry.at old sum) sum) ≤ now
    by true new since old sum then later = omega (arith, then, le)
    by false None since old sum then later = later
    by false (Some hold) since old sum then later = of_kind (kind hold.cause)
      where
        of_kind : (b : Bool) → cond b (with_hold_until kind line.entry.at old sum + (now - hold.since)) (with_hold_until kind line.entry.at old sum) ≤ now
        of_kind true = omega (arith, then, le, since hold refl)
        of_kind false = omega (arith, then, le)
