-- A lawful front goes on line by line, and since there are only so many lines it comes to its end.
use Rattle.std.proofs.Common.{◌≡◌, ℕ, zero, suc, ◌+◌, ◌*◌, ◌<◌, ◌≤◌, true, false, not, List, [], ◌∷◌, ◌++◌, length, refl, sym, ap, ◌∙◌, subst, ⊎_elim, arith, append_assoc}
use Rattle.std.proofs.lemmas.Bool.{cases_Bool, cases_lt, false≢true, and_parts, and_from, eq-eqb, ne_eqb, cond-true, cond-false}
use Rattle.rail_base.specs.declared.history.What.{What}
use Rattle.rail_base.specs.declared.history.What.TheVariants.{Free, Arrive, Enter, Out, Ready, Told, Untold, Admit, Hold, End}
use Rattle.rail_base.specs.declared.history.Cause.{Cause}
use Rattle.rail_rules.specs.Numbers.{sum_below}
use Rattle.rail_rules.specs.Plant.{trains, bound}
use Rattle.rail_rules.specs.Fronts.{Line, Front, has_ended, is_hold, lines_beside_holds}
use Rattle.rail_rules.specs.Orders.{Input}
use Rattle.rail_rules.specs.Causes.{is_ready, is_told_so}
use Rattle.rail_rules.specs.Lawful.{is_lawful, is_complete, may_follow}
use Rattle.rail_rules.proofs.CallerLemmas.{sum_below-le, sum_below_same}
use Rattle.rail_laws_front.specs.Premises.{IsWellFormed}
use Rattle.rail_laws_front.specs.Views.{Holds, Follows}
use Rattle.rail_laws_front.specs.Views.Follows.{by_event, by_admission, by_hold, by_end}
use Rattle.rail_laws_front.proofs.CallerLemmas.{lawful_before, lawful_last, never_goes}
use Rattle.rail_rules.specs.LineCounts.{holds_train, lines_that}
use Rattle.rail_laws_events.proofs.CallerLemmas.{sum-constant, sum-one_more, bounded, holds_bounded}
use Rattle.rail_laws_end.proofs.Progress.{event_no_hold, has_next}

-- the hold lines of all trains together
held_lines : Input → Front → ℕ
held_lines input front = sum_below (λ t. lines_that (holds_train t) front) (trains input.plant)

no_hold_no_train : (what : What) (t : ℕ) → is_hold what ≡ false → holds_train t what ≡ false
no_hold_no_train (Hold u m why) t h = absurd (false≢true (sym h))
no_hold_no_train (Admit u m note) t h = refl
no_hold_no_train End t h = refl
no_hold_no_train (Free x u) t h = refl
no_hold_no_train (Arrive u m) t h = refl
no_hold_no_train (Enter u m x) t h = refl
no_hold_no_train (Out u) t h = refl
no_hold_no_train (Ready u m) t h = refl
no_hold_no_train (Told k) t h = refl
no_hold_no_train (Untold k) t h = refl

-- each line of a lawful front is a hold line of some train or none
all_counted : (input : Input) (front : Front) → is_lawful input front ≡ true → length front ≤ lines_beside_holds front + held_lines input front
unfolding held_lines
all_counted input [] lawful = omega arith
all_counted input (line ∷ front) lawful = step (all_counted input front (lawful_before input line front lawful)) (lawful_last input line front lawful)
  where
    count : ℕ → ℕ
    count t = lines_that (holds_train t) front

    longer : length front
        ≤ lines_beside_holds front + sum_below (λ t. lines_that (holds_train t) front) (trains input.plant)
        → is_hold line.entry.what ≡ false
        → length (line ∷ front)
        ≤ lines_beside_holds (line ∷ front)
        + sum_below (λ t. lines_that (holds_train t) (line ∷ front)) (trains input.plant)
    longer before none =
        omega (
          arith,
          before,
          cond-false {A = ℕ} (is_hold line.entry.what) 0 1 none,
          sum_below_same (λ t. lines_that (holds_train t) (line ∷ front)) (λ t. lines_that (holds_train t) front) (trains input.plant)
              (λ t _. omega (arith, cond-false {A = ℕ} (holds_train t line.entry.what) 1 0 (no_hold_no_train line.entry.what t none))),
        )

    held : length front
        ≤ lines_beside_holds front + sum_below (λ t. lines_that (holds_train t) front) (trains input.plant)
        → (u m : ℕ) (why : Cause) → Holds input front line u m why
        → length (line ∷ front)
        ≤ lines_beside_holds (line ∷ front)
        + sum_below (λ t. lines_that (holds_train t) (line ∷ front)) (trains input.plant)
    held before u m why holds =
        let known : u < trains input.plant =
        ⊎_elim
        (λ lt. lt)
        (λ past. absurd (false≢true (sym (never_goes input front u past) ∙ (and_parts (is_ready input front u) (not (is_told_so input front u)) holds.due).0)))
        (cases_lt u (trains input.plant)) in
        omega (
          arith,
          before,
          cond-true {A = ℕ} (is_hold line.entry.what) 0 1 (ap is_hold holds.what),
          sum-one_more (λ t. lines_that (holds_train t) front) (λ t. lines_that (holds_train t) (line ∷ front)) (trains input.plant) u known
              (omega (arith, cond-true {A = ℕ} (holds_train u line.entry.what) 1 0 (ap (holds_train u) holds.what ∙ eq-eqb u u refl)))
              (λ t _ other. omega (arith, cond-false {A = ℕ} (holds_train t line.entry.what) 1 0 (ap (holds_train t) holds.what ∙ ne_eqb u t (λ e. other (sym e))))),
        )

    step : length front
        ≤ lines_beside_holds front + sum_below (λ t. lines_that (holds_train t) front) (trains input.plant)
        → Follows input front line
        → length (line ∷ front)
        ≤ lines_beside_holds (line ∷ front)
        + sum_below (λ t. lines_that (holds_train t) (line ∷ front)) (trains input.plant)
    step before (by_event happens) = longer before (event_no_hold line.entry.what happens.event)
    step before (by_admission u m note admits) = longer before (ap is_hold admits.what)
    step before (by_hold u m why holds) = held before u m why holds
    step before (by_end ends) = longer before (ap is_hold ends.what)

-- so no lawful front has more lines than this
most_lines : Input → ℕ
most_lines input = bound input.plant (length input.commands) + bound input.plant (length input.commands) * trains input.plant

few_lines : (input : Input) → IsWellFormed input.plant → (front : Front) → is_lawful input front ≡ true → length front ≤ most_lines input
unfolding most_lines held_lines
few_lines input fine front lawful =
    omega (
      arith,
      all_counted input front lawful,
      bounded input fine front lawful,
      sum_below-le (λ t. lines_that (holds_train t) front) (λ _. bound input.plant (length input.commands)) (trains input.plant) (λ t _. holds_bounded input fine t front lawful),
      sum-constant (bound input.plant (length input.commands)) (trains input.plant),
    )

-- lines in front of a front that make it a history that is lawful to the end
pub HasContinuation : Input → Front → Type 0
HasContinuation input front = (lines : List Line) × (is_complete input (lines ++ front) ≡ true)

goes_on : (input : Input) → IsWellFormed input.plant → (fuel : ℕ) (front : Front) → is_lawful input front ≡ true → most_lines input ≤ fuel + length front → HasContinuation input front
unfolding HasContinuation
goes_on input fine zero front lawful few =
    ⊎_elim
    (λ ended. ([], and_from (is_lawful input front) (has_ended front) lawful ended))
    (λ runs.
    let next = has_next input fine front lawful runs in
    absurd (omega (arith, few, few_lines input fine (next.0 ∷ front) (and_from (is_lawful input front) (may_follow input front next.0) lawful next.1))))
    (cases_Bool (has_ended front))
goes_on input fine (suc fuel) front lawful few =
    let later : (line : Line) → is_lawful input (line ∷ front) ≡ true → HasContinuation input (line ∷ front) = λ line more. goes_on input fine fuel (line ∷ front) more (omega (arith, few)) in
    ⊎_elim
    (λ ended. ([], and_from (is_lawful input front) (has_ended front) lawful ended))
    (λ runs.
    let next = has_next input fine front lawful runs in
    let rest = later next.0 (and_from (is_lawful input front) (may_follow input front next.0) lawful next.1) in
    let P : Front → Type 0 = λ whole. is_complete input whole ≡ true in
    (rest.0 ++ next.0 ∷ [], subst P (sym (append_assoc rest.0 (next.0 ∷ []) front)) rest.1))
    (cases_Bool (has_ended front))

pub continued : (input : Input) → IsWellFormed input.plant → (front : Front) → is_lawful input front ≡ true → (lines : List Line) × (is_complete input (lines ++ front) ≡ true)
unfolding HasContinuation
continued input fine front lawful = goes_on input fine (most_lines input) front lawful (omega arith)
