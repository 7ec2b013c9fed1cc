-- What is counted of holds line by line is the sum of the spans between hold lines.
use Rattle.std.proofs.Common.{◌≡◌, ℕ, ◌+◌, ◌-◌, Bool, true, false, ◌&&◌, ◌||◌, cond, eqb, is_some, List, [], ◌∷◌, ◌++◌, Option, Some, None, refl, sym, ap, ◌∙◌, arith}
use Rattle.rail_base.specs.declared.history.What.{What}
use Rattle.rail_base.specs.declared.history.What.TheVariants.{Free, Arrive, Enter, Out, Ready, Told, Untold, Admit, Hold, End}
use Rattle.rail_base.specs.declared.history.Cause.{Cause}
use Rattle.rail_base.specs.declared.orders.Command.{Command}
use Rattle.rail_rules.specs.Numbers.{or_else}
use Rattle.rail_rules.specs.Fronts.{Front, Line}
use Rattle.rail_rules.specs.Orders.{is_cancelled, orders_of}
use Rattle.rail_delay.specs.declared.account.OpenHold.{OpenHold}
use Rattle.rail_delay.specs.HeldTimes.{first_time, hold_spans, is_hold_by, is_hold_over, spans_before, time_until}
use Rattle.rail_delay.specs.Waits.{does_end_wait, held_for, holding, holding_by, with_hold_until}

-- the first of two that are there, and a third
first_of_three : (a b c : Option ℕ) → or_else (or_else a b) c ≡ or_else a (or_else b c)
first_of_three None b c = refl
first_of_three (Some x) b c = refl

-- an older line says so before the others
first_older : (says : What → Bool) (behind : Front) (line : Line)
    → first_time says (behind ++ line ∷ []) ≡ or_else (cond (says line.entry.what) (Some line.entry.at) None) (first_time says behind)
first_older says [] line = by (cond (says line.entry.what) (Some line.entry.at) None)
  where
    by : (o : Option ℕ) → or_else None o ≡ or_else o None
    by None = refl
    by (Some x) = refl
first_older says (z ∷ behind) line =
    ap (λ (o : Option ℕ). or_else o (cond (says z.entry.what) (Some z.entry.at) None)) (first_older says behind line)
    ∙ first_of_three (cond (says line.entry.what) (Some line.entry.at) None) (first_time says behind) (cond (says z.entry.what) (Some z.entry.at) None)

-- the time of a hold that goes on until an instant, where it is by a cause of this kind
abbrev open_hold : (Cause → Bool) → Option ℕ → Option OpenHold → ℕ
open_hold kind end None = 0
open_hold kind end (Some hold) = cond (kind hold.cause) (time_until end hold.since) 0

module _ (kind : Cause → Bool) (at : ℕ) (over : Option ℕ) (before : Option OpenHold) (sum : ℕ) where
  -- one more line, by whether it ends the wait, what it says as a hold line, its span, and whether a hold is over at it
  abbrev OneMore : Bool → Option OpenHold → ℕ → Bool → Type 0
  OneMore ends new span is_over = span + (sum + open_hold kind (or_else (cond is_over (Some at) None) over) before)
      ≡ cond (ends || is_some new) (with_hold_until kind at before sum) sum + open_hold kind over (cond ends None (or_else new before))

  -- a hold that is over at the time
  over_now : sum + open_hold kind (Some at) before ≡ with_hold_until kind at before sum
  over_now = by before
    where
      by : (hold : Option OpenHold) → sum + open_hold kind (Some at) hold ≡ with_hold_until kind at hold sum
      by None = omega arith
      by (Some hold) = of_kind (kind hold.cause)
        where
          of_kind : (b : Bool) → sum + cond b (at - hold.since) 0 ≡ cond b (sum + (at - hold.since)) sum
          of_kind true = refl
          of_kind false = omega arith

  passed : OneMore false None 0 false
  passed = omega arith

  ended : OneMore true None 0 true
  ended = omega (arith, over_now)

  held_anew : (why : Cause) → OneMore false (Some (record { since = at; cause = why })) (cond (kind why) (time_until over at) 0) true
  held_anew why = omega (arith, over_now)

module _ (kind : Cause → Bool) (commands : List Command) (t : ℕ) where
  -- one more line, by what it says
  line_more : (at : ℕ) (over : Option ℕ) (before : Option OpenHold) (sum : ℕ) (what : What)
      → OneMore kind at over before sum (does_end_wait commands t what) (holding_by t at what) (cond (is_hold_by kind t what) (time_until over at) 0) (is_hold_over commands t what)
  line_more at over before sum (Free x u) = passed kind at over before sum
  line_more at over before sum (Arrive u m) = passed kind at over before sum
  line_more at over before sum (Enter u m x) = passed kind at over before sum
  line_more at over before sum (Out u) = passed kind at over before sum
  line_more at over before sum (Ready u m) = passed kind at over before sum
  line_more at over before sum (Untold k) = passed kind at over before sum
  line_more at over before sum End = ended kind at over before sum
  line_more at over before sum (Told k) = by (is_cancelled t (orders_of commands (Told k)))
    where
      by : (b : Bool) → OneMore kind at over before sum (b || false) None 0 (b || false)
      by true = ended kind at over before sum
      by false = passed kind at over before sum
  line_more at over before sum (Admit u m note) = by (eqb u t)
    where
      by : (b : Bool) → OneMore kind at over before sum ((b || false) || false) None 0 ((b || false) || false)
      by true = ended kind at over before sum
      by false = passed kind at over before sum
  line_more at over before sum (Hold u m why) = by (eqb u t)
    where
      by : (b : Bool) → OneMore kind at over before sum false (cond b (Some (record { since = at; cause = why })) None) (cond (b && kind why) (time_until over at) 0)
          ((((b && true) || false) || false) || false)
      by true = held_anew kind at over before sum why
      by false = passed kind at over before sum

  -- where lines stand behind the front, the hold that goes on is over at the first of them at which it is
  spans_so_far : (front behind : Front) → spans_before kind commands t behind front
      ≡ held_for kind commands front t + open_hold kind (first_time (is_hold_over commands t) behind) (holding commands front t)
  spans_so_far [] behind = refl
  spans_so_far (line ∷ front) behind =
      let over : Option ℕ = first_time (is_hold_over commands t) behind in
      let span : ℕ = cond (is_hold_by kind t line.entry.what) (time_until over line.entry.at) 0 in
      ap (λ (n : ℕ). span + n) (spans_so_far front (behind ++ line ∷ [])
      ∙ ap (λ (o : Option ℕ). held_for kind commands front t + open_hold kind o (holding commands front t)) (first_older (is_hold_over commands t) behind line))
      ∙ line_more line.entry.at over (holding commands front t) (held_for kind commands front t) line.entry.what

-- the time held by a kind of cause is the sum of the spans
pub held_in_spans : (kind : Cause → Bool) (commands : List Command) (front : Front) (t : ℕ) → held_for kind commands front t ≡ hold_spans kind commands front t
held_in_spans kind commands front t = sym (spans_so_far kind commands t front [] ∙ by (holding commands front t))
  where
    by : (hold : Option OpenHold) → held_for kind commands front t + open_hold kind None hold ≡ held_for kind commands front t
    by None = omega arith
    by (Some hold) = of_kind (kind hold.cause)
      where
        of_kind : (b : Bool) → held_for kind commands front t + cond b 0 0 ≡ held_for kind commands front t
        of_kind true = omega arith
        of_kind false = omega arith
