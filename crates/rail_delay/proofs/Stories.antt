-- What a train waits for is told at once, so its waits are the sum of its holds.
use Rattle.std.proofs.Common.{◌≡◌, ℕ, suc, ◌+◌, ◌-◌, ◌<◌, ◌≤◌, Bool, true, false, not, ◌&&◌, ◌||◌, ◌⊎◌, cond, eqb, leb, ltb, List, [], ◌∷◌, ◌++◌, length, length-append, is_some, Option, Some, None, refl, sym, ap, ◌∙◌, ⊎_elim, inl, arith}
use Rattle.std.proofs.lemmas.Bool.{and_parts, and_from, cases_lt, eq-eqb, eqb-true, false_from_ne_true, false≢true, le-leb, or_right}
use Rattle.rail_base.specs.declared.history.Cause.{Cause}
use Rattle.rail_base.specs.declared.history.Cause.TheVariants.{Stopped, Closed, Blocked, NoList}
use Rattle.rail_base.specs.declared.history.Entry.{Entry}
use Rattle.rail_base.specs.declared.history.What.{What}
use Rattle.rail_base.specs.declared.history.What.TheVariants.{Free, Arrive, Enter, Out, Ready, Told, Untold, Admit, Hold, End}
use Rattle.rail_base.specs.declared.history.Note.{Note}
use Rattle.rail_base.specs.declared.orders.Command.{Command}
use Rattle.rail_base.specs.declared.orders.Order.{Order}
use Rattle.rail_base.specs.declared.orders.Order.TheVariants.{Policy, Retire, Close, Reopen, Stop, Go, Cancel, Priority}
use Rattle.rail_rules.specs.Numbers.{all_below, or_else}
use Rattle.rail_rules.specs.Plant.{moves, trains}
use Rattle.rail_rules.specs.Fronts.{Front, Line, admissions, admits, has_ended, hold_of, instant, is_end, same_cause, same_entry, stands}
use Rattle.rail_rules.specs.Orders.{Input, is_cancelled, orders_of, told}
use Rattle.rail_rules.specs.Events.{ready_line}
use Rattle.rail_rules.specs.Causes.{cause, is_deciding, is_ready, is_settled, is_told_so, last_hold, place}
use Rattle.rail_rules.specs.Lawful.{is_lawful, may_follow}
use Rattle.rail_rules.proofs.CallerLemmas.{all_below_at}
use Rattle.rail_laws_front.specs.Premises.{IsWellFormed}
use Rattle.rail_laws_front.specs.Views.{Follows, is_event}
use Rattle.rail_laws_front.specs.Views.Follows.{by_event, by_admission, by_hold, by_end}
use Rattle.rail_laws_front.proofs.CallerLemmas.{lawful_before, lawful_last, never_goes, not_ended, times_rise}
use Rattle.rail_laws_events.proofs.CallerLemmas.{one_entry}
use Rattle.rail_laws_step.proofs.CallerLemmas.{no_later_hold, nobody_ready, ready_by_line, unready_by_admission}
use Rattle.rail_delay.specs.declared.account.OpenHold.{OpenHold}
use Rattle.rail_delay.specs.Waits.{does_end_wait, held, held_by_kinds, held_for, holding, holding_by, is_blocking, is_closure, is_in_order, is_stop, is_want_of_list, waits_since, with_hold_until, with_wait_until}
use Rattle.rail_laws_step.specs.LineKinds.{is_ready_line}

-- a sum with the time of a hold of any kind
abbrev with_any_hold : ℕ → Option OpenHold → ℕ → ℕ
with_any_hold now None sum = sum
with_any_hold now (Some hold) sum = sum + (now - hold.since)

-- the four sums with the time of a hold are their sum with that time
four_kinds : (now : ℕ) (old : Option OpenHold) (a b c d : ℕ)
    → with_hold_until is_stop now old a + with_hold_until is_closure now old b + with_hold_until is_blocking now old c + with_hold_until is_want_of_list now old d
    ≡ with_any_hold now old (a + b + c + d)
four_kinds now None a b c d = refl
four_kinds now (Some hold) a b c d = by hold.cause
  where
    by : (why : Cause) → cond (is_stop why) (a + (now - hold.since)) a + cond (is_closure why) (b + (now - hold.since)) b + cond (is_blocking why) (c + (now - hold.since)) c
        + cond (is_want_of_list why) (d + (now - hold.since)) d ≡ a + b + c + d + (now - hold.since)
    by Stopped = omega arith
    by (Closed x) = omega arith
    by (Blocked x u) = omega arith
    by NoList = omega arith

-- the figures of a train after a line
record Figures (commands : List Command) (line : Line) (front : Front) (t : ℕ) (since : Option ℕ) (hold : Option OpenHold) (sum kinds : ℕ) : Type 0 where
  pub waits : waits_since commands (line ∷ front) t ≡ since
  pub holds : holding commands (line ∷ front) t ≡ hold
  pub total : held commands (line ∷ front) t ≡ sum
  pub parts : held_by_kinds commands (line ∷ front) t ≡ kinds

module _ (commands : List Command) (line : Line) (front : Front) (t : ℕ) where
  -- by whether the line ends the wait, whether it is a ready line, and what it says as a hold line
  figures : (ends ready : Bool) (new : Option OpenHold) → does_end_wait commands t line.entry.what ≡ ends → is_ready_line t line.entry.what ≡ ready
      → holding_by t line.entry.at line.entry.what ≡ new
      → Figures commands line front t (cond ends None (cond ready (Some line.entry.at) (waits_since commands front t))) (cond ends None (or_else new (holding commands front t)))
      (cond ends (with_wait_until line.entry.at (waits_since commands front t) (held commands front t)) (held commands front t))
      (cond (ends || is_some new) (with_any_hold line.entry.at (holding commands front t) (held_by_kinds commands front t)) (held_by_kinds commands front t))
  figures ends ready new e r n = record {
    waits = λ i. cond (e i) None (cond (r i) (Some line.entry.at) (waits_since commands front t));
    holds = λ i. cond (e i) None (or_else (n i) (holding commands front t));
    total = λ i. cond (e i) (with_wait_until line.entry.at (waits_since commands front t) (held commands front t)) (held commands front t);
    parts = (λ i. four (e i || is_some (n i))) ∙ chosen (ends || is_some new);
  }
    where
      kind_sum : (Cause → Bool) → Bool → ℕ
      kind_sum kind b = cond b (with_hold_until kind line.entry.at (holding commands front t) (held_for kind commands front t)) (held_for kind commands front t)

      four : Bool → ℕ
      four b = kind_sum is_stop b + kind_sum is_closure b + kind_sum is_blocking b + kind_sum is_want_of_list b

      chosen : (b : Bool) → four b ≡ cond b (with_any_hold line.entry.at (holding commands front t) (held_by_kinds commands front t)) (held_by_kinds commands front t)
      chosen true = four_kinds line.entry.at (holding commands front t) (held_for is_stop commands front t) (held_for is_closure commands front t)
          (held_for is_blocking commands front t) (held_for is_want_of_list commands front t)
      chosen false = refl

-- orders that cancel a train
pub cancelled_both : (t : ℕ) (xs ys : List Order) → is_cancelled t (xs ++ ys) ≡ is_cancelled t xs || is_cancelled t ys
cancelled_both t [] ys = refl
cancelled_both t (Policy name ∷ xs) ys = cancelled_both t xs ys
cancelled_both t (Retire name ∷ xs) ys = cancelled_both t xs ys
cancelled_both t (Close x ∷ xs) ys = cancelled_both t xs ys
cancelled_both t (Reopen x ∷ xs) ys = cancelled_both t xs ys
cancelled_both t (Stop u ∷ xs) ys = cancelled_both t xs ys
cancelled_both t (Go u ∷ xs) ys = cancelled_both t xs ys
cancelled_both t (Priority u n ∷ xs) ys = cancelled_both t xs ys
cancelled_both t (Cancel u ∷ xs) ys = by (eqb u t) (cancelled_both t xs ys)
  where
    by : (b : Bool) → is_cancelled t (xs ++ ys) ≡ is_cancelled t xs || is_cancelled t ys → b || is_cancelled t (xs ++ ys) ≡ (b || is_cancelled t xs) || is_cancelled t ys
    by true rest = refl
    by false rest = rest

-- no cause is told by no hold line
told_none : (why : Option Cause) → is_some why && same_cause None why ≡ true → ⊥
told_none None is = false≢true is
told_none (Some Stopped) is = false≢true is
told_none (Some (Closed x)) is = false≢true is
told_none (Some (Blocked x u)) is = false≢true is
told_none (Some NoList) is = false≢true is

-- where everything is settled each train that is ready has a hold line
settled_held : (input : Input) (front : Front) (t : ℕ) → is_settled input front ≡ true → is_ready input front t ≡ true → last_hold front t (suc (place front t)) ≡ None → ⊥
settled_held input [] t settled ready none = false≢true (sym (nobody_ready input t) ∙ ready)
settled_held input (line ∷ before) t settled ready none = ⊎_elim known unknown (cases_lt t (trains input.plant))
  where
    unknown : trains input.plant ≤ t → ⊥
    unknown past = false≢true (sym (never_goes input (line ∷ before) t past) ∙ ready)

    told_so : (b : Bool) → b ≡ true → not b || (is_some (cause input (line ∷ before) t) && is_told_so input (line ∷ before) t) ≡ true
        → is_some (cause input (line ∷ before) t) && is_told_so input (line ∷ before) t ≡ true
    told_so true same is = is
    told_so false same is = absurd (false≢true same)

    told_each : ℕ → Bool
    told_each u = not (is_ready input (line ∷ before) u) || (is_some (cause input (line ∷ before) u) && is_told_so input (line ∷ before) u)

    known : t < trains input.plant → ⊥
    known lt =
        let each = (and_parts (is_deciding input (line ∷ before)) (all_below told_each (trains input.plant)) settled).1 in
        let said = told_so (is_ready input (line ∷ before) t) ready (all_below_at told_each (trains input.plant) t each lt) in
        told_none (cause input (line ∷ before) t)
        (ap (λ (o : Option Cause). is_some (cause input (line ∷ before) t) && same_cause o (cause input (line ∷ before) t)) (sym none) ∙ said)

-- a line follows at the instant, or after everything is settled
pub now_or_settled : (input : Input) (line : Line) (front : Front) → Follows input front line → (line.entry.at ≡ instant front) ⊎ (is_settled input front ≡ true)
now_or_settled input line front (by_event happens) = happens.when
now_or_settled input line front (by_admission t m note admits) = inl admits.now
now_or_settled input line front (by_hold t m why holds) = inl holds.now
now_or_settled input line front (by_end ends) = inl ends.now

-- why a train does not wait: it is not ready and was not held, it is cancelled, or the history has ended
pub data Rest (input : Input) (front : Front) (t : ℕ) : Type 0 where
  unready : is_ready input front t ≡ false → last_hold front t (suc (place front t)) ≡ None → Rest input front t
  dropped : is_cancelled t (told input.commands front) ≡ true → Rest input front t
  over : has_ended front ≡ true → Rest input front t

-- what a train does in a lawful front: it does not wait, it is ready since this instant and nothing is told yet, or it is held
pub data Story (input : Input) (front : Front) (t : ℕ) : Type 0 where
  idle : waits_since input.commands front t ≡ None → holding input.commands front t ≡ None → held_by_kinds input.commands front t ≡ held input.commands front t → Rest input front t
      → Story input front t
  waiting : (since : ℕ) → waits_since input.commands front t ≡ Some since → since ≡ instant front → holding input.commands front t ≡ None
      → held_by_kinds input.commands front t ≡ held input.commands front t → is_ready input front t ≡ true → last_hold front t (suc (place front t)) ≡ None → Story input front t
  delayed : (since : ℕ) (hold : OpenHold) → waits_since input.commands front t ≡ Some since → holding input.commands front t ≡ Some hold → since ≤ hold.since → hold.since ≤ instant front
      → held_by_kinds input.commands front t ≡ held input.commands front t + (hold.since - since) → is_ready input front t ≡ true → Story input front t

-- a cancelled train is not ready
pub cancelled_rests : (input : Input) (front : Front) (t : ℕ) → is_cancelled t (told input.commands front) ≡ true → is_ready input front t ≡ true → ⊥
cancelled_rests input front t is ready =
    let runs = (and_parts (ltb (place front t) (moves input.plant t)) (not (is_cancelled t (told input.commands front)))
    (and_parts (ltb (place front t) (moves input.plant t) && not (is_cancelled t (told input.commands front))) (stands front (ready_line input.plant t (admissions front t) (place front t))) ready).0).1 in
    false≢true (ap not (sym is) ∙ runs)

module _ (input : Input) (fine : IsWellFormed input.plant) (line : Line) (front : Front) (lawful : is_lawful input (line ∷ front) ≡ true) (t : ℕ) where
  rises : instant front ≤ line.entry.at
  rises = times_rise input fine line front lawful

  -- a train that waits since the instant of the front does so since the time of the line
  still_now : is_ready input front t ≡ true → last_hold front t (suc (place front t)) ≡ None → instant front ≡ line.entry.at
  still_now ready none = ⊎_elim (λ now. sym now) (λ settled. absurd (settled_held input front t settled ready none)) (now_or_settled input line front (lawful_last input line front lawful))

  goes_on : has_ended front ≡ true → ⊥
  goes_on ended = false≢true (sym (not_ended input front line (and_parts (is_lawful input front) (may_follow input front line) lawful).1) ∙ ended)

  -- a line that ends the wait
  wait_over : does_end_wait input.commands t line.entry.what ≡ true → Story input front t → Rest input (line ∷ front) t → Story input (line ∷ front) t
  wait_over ends story rest = by story
    where
      now : Figures input.commands line front t None None (with_wait_until line.entry.at (waits_since input.commands front t) (held input.commands front t))
          (with_any_hold line.entry.at (holding input.commands front t) (held_by_kinds input.commands front t))
      now = figures input.commands line front t true (is_ready_line t line.entry.what) (holding_by t line.entry.at line.entry.what) ends refl refl

      by : Story input front t → Story input (line ∷ front) t
      by (idle none free same _) = idle now.waits now.holds
          (now.parts ∙ ap (λ (h : Option OpenHold). with_any_hold line.entry.at h (held_by_kinds input.commands front t)) free ∙ same
          ∙ ap (λ (s : Option ℕ). with_wait_until line.entry.at s (held input.commands front t)) (sym none) ∙ sym now.total) rest
      by (waiting since is at free same ready unheld) =
          let here = still_now ready unheld in
          let zero_wait : held input.commands front t ≡ held input.commands front t + (line.entry.at - since) = omega (arith, at, here) in
          idle now.waits now.holds
          (now.parts ∙ ap (λ (h : Option OpenHold). with_any_hold line.entry.at h (held_by_kinds input.commands front t)) free ∙ same ∙ zero_wait
          ∙ ap (λ (s : Option ℕ). with_wait_until line.entry.at s (held input.commands front t)) (sym is) ∙ sym now.total) rest
      by (delayed since hold is held_so from until sum ready) =
          let whole : held_by_kinds input.commands front t + (line.entry.at - hold.since) ≡ held input.commands front t + (line.entry.at - since) = omega (arith, from, until, sum, rises) in
          idle now.waits now.holds
          (now.parts ∙ ap (λ (h : Option OpenHold). with_any_hold line.entry.at h (held_by_kinds input.commands front t)) held_so ∙ whole
          ∙ ap (λ (s : Option ℕ). with_wait_until line.entry.at s (held input.commands front t)) (sym is) ∙ sym now.total) rest

  -- what stays by a line that does not concern whether the train is ready
  module _ (elsewhere : admits t line.entry.what ≡ false) (other : is_ready_line t line.entry.what ≡ false) (running : is_cancelled t (orders_of input.commands line.entry.what) ≡ false) where
    same_admissions : admissions (line ∷ front) t ≡ admissions front t
    same_admissions = ap (λ (b : Bool). cond b (admissions front t ++ line.entry.at ∷ []) (admissions front t)) elsewhere

    same_cancelled : is_cancelled t (told input.commands (line ∷ front)) ≡ is_cancelled t (told input.commands front)
    same_cancelled = cancelled_both t (orders_of input.commands line.entry.what) (told input.commands front) ∙ ap (λ (b : Bool). b || is_cancelled t (told input.commands front)) running

    not_next : (adms : List ℕ) (m : ℕ) → same_entry (ready_line input.plant t adms m) line.entry ≡ false
    not_next adms m = false_from_ne_true (same_entry (ready_line input.plant t adms m) line.entry) (λ is.
        false≢true (sym other ∙ ap (λ (e : Entry). is_ready_line t e.what) (sym (one_entry (ready_line input.plant t adms m) line.entry is)) ∙ eq-eqb t t refl))

    same_ready : is_ready input (line ∷ front) t ≡ is_ready input front t
    same_ready =
        (λ i. ltb (length (same_admissions i)) (moves input.plant t) && not (same_cancelled i) && (same_entry (ready_line input.plant t (same_admissions i) (length (same_admissions i))) line.entry
        || stands front (ready_line input.plant t (same_admissions i) (length (same_admissions i)))))
        ∙ ap (λ (b : Bool). ltb (place front t) (moves input.plant t) && not (is_cancelled t (told input.commands front)) && (b || stands front (ready_line input.plant t (admissions front t) (place front t))))
        (not_next (admissions front t) (place front t))

  -- the last hold line of the next move stays by a line that is no hold line of the train
  same_hold : admits t line.entry.what ≡ false → ((m : ℕ) → hold_of t m line.entry.what ≡ None) → last_hold (line ∷ front) t (suc (place (line ∷ front) t)) ≡ last_hold front t (suc (place front t))
  same_hold elsewhere none =
      ap (λ (b : Bool). last_hold (line ∷ front) t (suc (length (cond b (admissions front t ++ line.entry.at ∷ []) (admissions front t))))) elsewhere
      ∙ ap (λ (o : Option Cause). or_else o (last_hold front t (suc (place front t)))) (none (suc (place front t)))

  -- a line that changes nothing for the train
  passes : does_end_wait input.commands t line.entry.what ≡ false → is_ready_line t line.entry.what ≡ false → holding_by t line.entry.at line.entry.what ≡ None → admits t line.entry.what ≡ false
      → is_cancelled t (orders_of input.commands line.entry.what) ≡ false → ((m : ℕ) → hold_of t m line.entry.what ≡ None) → Story input front t → Story input (line ∷ front) t
  passes ends other unheld elsewhere running no_hold story = by story
    where
      now : Figures input.commands line front t (waits_since input.commands front t) (holding input.commands front t) (held input.commands front t) (held_by_kinds input.commands front t)
      now = figures input.commands line front t false false None ends other unheld

      stays : is_ready input (line ∷ front) t ≡ is_ready input front t
      stays = same_ready elsewhere other running

      rests : Rest input front t → Rest input (line ∷ front) t
      rests (unready not_ready none) = unready (stays ∙ not_ready) (same_hold elsewhere no_hold ∙ none)
      rests (dropped is) = dropped (same_cancelled elsewhere other running ∙ is)
      rests (over ended) = absurd (goes_on ended)

      by : Story input front t → Story input (line ∷ front) t
      by (idle none free same rest) = idle (now.waits ∙ none) (now.holds ∙ free) (now.parts ∙ same ∙ sym now.total) (rests rest)
      by (waiting since is at free same ready none) =
          waiting since (now.waits ∙ is) (at ∙ still_now ready none) (now.holds ∙ free) (now.parts ∙ same ∙ sym now.total) (stays ∙ ready) (same_hold elsewhere no_hold ∙ none)
      by (delayed since hold is held_so from until sum ready) =
          delayed since hold (now.waits ∙ is) (now.holds ∙ held_so) from (omega (arith, until, rises))
          (now.parts ∙ sum ∙ ap (λ (n : ℕ). n + (hold.since - since)) (sym now.total)) (stays ∙ ready)

  -- the ready line of the train
  readied : (m : ℕ) → line.entry.what ≡ Ready t m → Story input front t → Story input (line ∷ front) t
  readied m what story = by story
    where
      now : Figures input.commands line front t (Some line.entry.at) (holding input.commands front t) (held input.commands front t) (held_by_kinds input.commands front t)
      now = figures input.commands line front t false true None (ap (does_end_wait input.commands t) what) (ap (is_ready_line t) what ∙ eq-eqb t t refl) (ap (holding_by t line.entry.at) what)

      not_before : is_ready input front t ≡ false
      not_before = (ready_by_line input line front t m lawful what).1

      from_now : is_ready input (line ∷ front) t ≡ true
      from_now = (ready_by_line input line front t m lawful what).2

      unheld : Rest input front t → last_hold (line ∷ front) t (suc (place (line ∷ front) t)) ≡ None
      unheld (unready _ none) = same_hold (ap (admits t) what) (λ n. ap (hold_of t n) what) ∙ none
      unheld (dropped is) = absurd (cancelled_rests input (line ∷ front) t (ap (λ (w : What). is_cancelled t (orders_of input.commands w ++ told input.commands front)) what ∙ is) from_now)
      unheld (over ended) = absurd (goes_on ended)

      by : Story input front t → Story input (line ∷ front) t
      by (idle none free same rest) = waiting line.entry.at now.waits refl (now.holds ∙ free) (now.parts ∙ same ∙ sym now.total) from_now (unheld rest)
      by (waiting since is at free same ready none) = absurd (false≢true (sym not_before ∙ ready))
      by (delayed since hold is held_so from until sum ready) = absurd (false≢true (sym not_before ∙ ready))

  -- a hold line is of a train that is ready
  held_ready : (m : ℕ) (why : Cause) → line.entry.what ≡ Hold t m why → (is_ready input front t ≡ true) × (line.entry.at ≡ instant front)
  held_ready m why what = by (lawful_last input line front lawful)
    where
      train_in : What → ℕ
      train_in (Hold u n cause) = u
      train_in _ = 0

      by : Follows input front line → (is_ready input front t ≡ true) × (line.entry.at ≡ instant front)
      by (by_event happens) = absurd (false≢true (sym (ap is_event what) ∙ happens.event))
      by (by_admission u n note admits) = absurd (clash (sym what ∙ admits.what))
        where
          clash : {n : ℕ} {note : Note} {u : ℕ} → Hold t m why ≡ Admit u n note → ⊥
          clash e = cc
      by (by_hold u n cause holds) =
          let same : u ≡ t = ap train_in (sym holds.what ∙ what) in
          let ready = (and_parts (is_ready input front u) (not (is_told_so input front u)) holds.due).0 in
          (ap (is_ready input front) (sym same) ∙ ready, holds.now)
      by (by_end ends) = absurd (clash (sym what ∙ ends.what))
        where
          clash : Hold t m why ≡ End → ⊥
          clash e = cc

  -- a hold line of the train
  held_on : (m : ℕ) (why : Cause) → line.entry.what ≡ Hold t m why → Story input front t → Story input (line ∷ front) t
  held_on m why what story = by story
    where
      hold_now : OpenHold
      hold_now = record { since = line.entry.at; cause = why }

      now : Figures input.commands line front t (waits_since input.commands front t) (Some (record { since = line.entry.at; cause = why })) (held input.commands front t)
          (with_any_hold line.entry.at (holding input.commands front t) (held_by_kinds input.commands front t))
      now = figures input.commands line front t false false (Some (record { since = line.entry.at; cause = why })) (ap (does_end_wait input.commands t) what) (ap (is_ready_line t) what)
          (ap (holding_by t line.entry.at) what ∙ ap (λ (b : Bool). cond b (Some (record { since = line.entry.at; cause = why })) None) (eq-eqb t t refl))

      here : line.entry.at ≡ instant front
      here = (held_ready m why what).1

      before : is_ready input front t ≡ true
      before = (held_ready m why what).0

      after : is_ready input (line ∷ front) t ≡ true
      after = same_ready (ap (admits t) what) (ap (is_ready_line t) what) (ap (λ (w : What). is_cancelled t (orders_of input.commands w)) what) ∙ before

      never : Rest input front t → ⊥
      never (unready not_ready _) = false≢true (sym not_ready ∙ before)
      never (dropped is) = cancelled_rests input front t is before
      never (over ended) = goes_on ended

      by : Story input front t → Story input (line ∷ front) t
      by (idle none free same rest) = absurd (never rest)
      by (waiting since is at free same ready none) =
          let zero_wait : held_by_kinds input.commands front t ≡ held input.commands front t + (line.entry.at - since) = omega (arith, same, at, here) in
          delayed since (record { since = line.entry.at; cause = why }) (now.waits ∙ is) now.holds (omega (arith, at, here)) (omega arith)
          (now.parts ∙ ap (λ (h : Option OpenHold). with_any_hold line.entry.at h (held_by_kinds input.commands front t)) free ∙ zero_wait ∙ ap (λ (n : ℕ). n + (line.entry.at - since)) (sym now.total)) after
      by (delayed since old is held_so from until sum ready) =
          let whole : held_by_kinds input.commands front t + (line.entry.at - old.since) ≡ held input.commands front t + (line.entry.at - since) = omega (arith, from, until, sum, rises) in
          delayed since (record { since = line.entry.at; cause = why }) (now.waits ∙ is) now.holds (omega (arith, from, until, rises)) (omega arith)
          (now.parts ∙ ap (λ (h : Option OpenHold). with_any_hold line.entry.at h (held_by_kinds input.commands front t)) held_so ∙ whole ∙ ap (λ (n : ℕ). n + (line.entry.at - since)) (sym now.total)) after

  -- an admission of the train
  admitted : (m : ℕ) (note : Note) → line.entry.what ≡ Admit t m note → Rest input (line ∷ front) t
  admitted m note what = by (lawful_last input line front lawful)
    where
      train_in : What → ℕ
      train_in (Admit u n any) = u
      train_in _ = 0

      raised : place (line ∷ front) t ≡ suc (place front t)
      raised = ap (λ (b : Bool). length (cond b (admissions front t ++ line.entry.at ∷ []) (admissions front t))) (ap (admits t) what ∙ eq-eqb t t refl)
          ∙ length-append (admissions front t) (line.entry.at ∷ []) ∙ omega arith

      unheld : last_hold (line ∷ front) t (suc (place (line ∷ front) t)) ≡ None
      unheld = ap (λ (p : ℕ). last_hold (line ∷ front) t (suc p)) raised
          ∙ ap (λ (o : Option Cause). or_else o (last_hold front t (suc (suc (place front t))))) (ap (hold_of t (suc (suc (place front t)))) what)
          ∙ no_later_hold input front t (suc (place front t)) (lawful_before input line front lawful) (omega arith)

      by : Follows input front line → Rest input (line ∷ front) t
      by (by_event happens) = absurd (false≢true (sym (ap is_event what) ∙ happens.event))
      by (by_admission u n any admits) =
          let same : u ≡ t = ap train_in (sym admits.what ∙ what) in
          unready (ap (is_ready input (line ∷ front)) (sym same) ∙ (unready_by_admission input line front u n any lawful admits).0) unheld
      by (by_hold u n cause holds) = absurd (clash (sym what ∙ holds.what))
        where
          clash : {n : ℕ} {cause : Cause} {u : ℕ} → Admit t m note ≡ Hold u n cause → ⊥
          clash e = cc
      by (by_end ends) = absurd (clash (sym what ∙ ends.what))
        where
          clash : Admit t m note ≡ End → ⊥
          clash e = cc

  -- one more line of the story
  told_on : Story input front t → Story input (line ∷ front) t
  told_on story = by line.entry.what refl
    where
      plain : (what : What) → line.entry.what ≡ what → does_end_wait input.commands t what ≡ false → is_ready_line t what ≡ false → holding_by t line.entry.at what ≡ None → admits t what ≡ false
          → is_cancelled t (orders_of input.commands what) ≡ false → ((m : ℕ) → hold_of t m what ≡ None) → Story input (line ∷ front) t
      plain what is ends other unheld elsewhere running no_hold =
          passes (ap (does_end_wait input.commands t) is ∙ ends) (ap (is_ready_line t) is ∙ other) (ap (holding_by t line.entry.at) is ∙ unheld) (ap (admits t) is ∙ elsewhere)
          (ap (λ (w : What). is_cancelled t (orders_of input.commands w)) is ∙ running) (λ m. ap (hold_of t m) is ∙ no_hold m) story

      of_ready : (u m : ℕ) → line.entry.what ≡ Ready u m → (b : Bool) → eqb u t ≡ b → Story input (line ∷ front) t
      of_ready u m is true same = readied m (is ∙ ap (λ (v : ℕ). Ready v m) (eqb-true u t same)) story
      of_ready u m is false same = plain (Ready u m) is refl same refl refl refl (λ n. refl)

      of_told : (k : ℕ) → line.entry.what ≡ Told k → (b : Bool) → is_cancelled t (orders_of input.commands (Told k)) ≡ b → Story input (line ∷ front) t
      of_told k is true same = wait_over (ap (does_end_wait input.commands t) is ∙ ap (λ (b : Bool). b || false) same) story
          (dropped (cancelled_both t (orders_of input.commands line.entry.what) (told input.commands front)
          ∙ ap (λ (b : Bool). b || is_cancelled t (told input.commands front)) (ap (λ (w : What). is_cancelled t (orders_of input.commands w)) is ∙ same)))
      of_told k is false same = plain (Told k) is (ap (λ (b : Bool). b || false) same) refl refl refl same (λ n. refl)

      of_admit : (u m : ℕ) (note : Note) → line.entry.what ≡ Admit u m note → (b : Bool) → eqb u t ≡ b → Story input (line ∷ front) t
      of_admit u m note is true same =
          wait_over (ap (does_end_wait input.commands t) is ∙ ap (λ (b : Bool). (b || false) || false) same) story (admitted m note (is ∙ ap (λ (v : ℕ). Admit v m note) (eqb-true u t same)))
      of_admit u m note is false same = plain (Admit u m note) is (ap (λ (b : Bool). (b || false) || false) same) refl refl same refl (λ n. refl)

      of_hold : (u m : ℕ) (why : Cause) → line.entry.what ≡ Hold u m why → (b : Bool) → eqb u t ≡ b → Story input (line ∷ front) t
      of_hold u m why is true same = held_on m why (is ∙ ap (λ (v : ℕ). Hold v m why) (eqb-true u t same)) story
      of_hold u m why is false same = plain (Hold u m why) is refl refl (ap (λ (b : Bool). cond b (Some (record { since = line.entry.at; cause = why })) None) same) refl refl
          (λ n. ap (λ (b : Bool). cond (b && eqb m n) (Some why) None) same)

      by : (what : What) → line.entry.what ≡ what → Story input (line ∷ front) t
      by (Free x u) is = plain (Free x u) is refl refl refl refl refl (λ n. refl)
      by (Arrive u m) is = plain (Arrive u m) is refl refl refl refl refl (λ n. refl)
      by (Enter u m x) is = plain (Enter u m x) is refl refl refl refl refl (λ n. refl)
      by (Out u) is = plain (Out u) is refl refl refl refl refl (λ n. refl)
      by (Ready u m) is = of_ready u m is (eqb u t) refl
      by (Told k) is = of_told k is (is_cancelled t (orders_of input.commands (Told k))) refl
      by (Untold k) is = plain (Untold k) is refl refl refl refl refl (λ n. refl)
      by (Admit u m note) is = of_admit u m note is (eqb u t) refl
      by (Hold u m why) is = of_hold u m why is (eqb u t) refl
      by End is = wait_over (ap (does_end_wait input.commands t) is) story (over (ap is_end is))

-- the story of a train in a lawful front
pub story_of : (input : Input) → IsWellFormed input.plant → (front : Front) → is_lawful input front ≡ true → (t : ℕ) → Story input front t
story_of input fine [] lawful t = idle refl refl refl (unready (nobody_ready input t) refl)
story_of input fine (line ∷ front) lawful t = told_on input fine line front lawful t (story_of input fine front (lawful_before input line front lawful) t)

-- at the end nobody waits, and what each train was held is the sum of the four kinds
pub held_sum : (input : Input) → IsWellFormed input.plant → (front : Front) → is_lawful input front ≡ true → has_ended front ≡ true → (t : ℕ) → held input.commands front t ≡ held_by_kinds input.commands front t
held_sum input fine [] lawful ended t = absurd (false≢true ended)
held_sum input fine (line ∷ front) lawful ended t = by (story_of input fine (line ∷ front) lawful t)
  where
    nobody : waits_since input.commands (line ∷ front) t ≡ None
    nobody = ap (λ (b : Bool). cond b None (cond (is_ready_line t line.entry.what) (Some line.entry.at) (waits_since input.commands front t)))
        (or_right (admits t line.entry.what || is_cancelled t (orders_of input.commands line.entry.what)) (is_end line.entry.what) ended)

    none_some : {x : ℕ} → None ≡ Some x → ⊥
    none_some e = cc

    by : Story input (line ∷ front) t → held input.commands (line ∷ front) t ≡ held_by_kinds input.commands (line ∷ front) t
    by (idle none free same rest) = sym same
    by (waiting since is at free same ready none) = absurd (none_some (sym nobody ∙ is))
    by (delayed since hold is held_so from until sum ready) = absurd (none_some (sym nobody ∙ is))

-- the times of a lawful front do not fall
pub in_order : (input : Input) → IsWellFormed input.plant → (front : Front) → is_lawful input front ≡ true → is_in_order front ≡ true
in_order input fine [] lawful = refl
in_order input fine (line ∷ front) lawful =
    and_from (is_in_order front) (leb (instant front) line.entry.at) (in_order input fine front (lawful_before input line front lawful))
    (le-leb (instant front) line.entry.at (times_rise input fine line front lawful))
