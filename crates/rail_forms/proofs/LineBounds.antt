-- How many lines a history has at most, hold lines with them.
use Rattle.std.proofs.Common.{◌≡◌, ℕ, zero, suc, ◌+◌, ◌*◌, ◌<◌, ◌≤◌, Bool, true, false, not, cond, eqb, ltb, ◌&&◌, [], ◌∷◌, length, refl, ap, arith, ⊎_elim}
use Rattle.std.proofs.lemmas.Bool.{and_parts, cases_eq, ltb-true, false≢true, eq-eqb}
use Rattle.rail_base.specs.declared.history.What.{What}
use Rattle.rail_base.specs.declared.history.What.TheVariants.{Free, Arrive, Enter, Out, Ready, Told, Untold, Admit, Hold, End}
use Rattle.rail_rules.specs.LineCounts.{holds_train, lines_that}
use Rattle.rail_laws_events.proofs.CallerLemmas.{bounded, holds_bounded, sum-plus, sum-limited}
use Rattle.rail_rules.specs.Numbers.{sum_below}
use Rattle.rail_rules.specs.Plant.{Plant, bound, moves, trains}
use Rattle.rail_rules.specs.Fronts.{Front, Line, is_hold, lines_beside_holds}
use Rattle.rail_rules.specs.Causes.{is_ready, is_told_so, place}
use Rattle.rail_rules.specs.Lawful.{is_lawful}
use Rattle.rail_rules.specs.Orders.{Input, is_cancelled, told}
use Rattle.rail_laws_front.specs.Premises.{IsWellFormed}
use Rattle.rail_laws_front.specs.Views.{Follows, is_event}
use Rattle.rail_laws_front.specs.Views.Follows.{by_event, by_admission, by_hold, by_end}
use Rattle.rail_laws_front.proofs.CallerLemmas.{known_train, lawful_before, lawful_last}

-- one of the trains below a number is this one
one_of : (t n : ℕ) → t < n → 1 ≤ sum_below (λ u. cond (eqb t u) 1 0) n
one_of t zero lt = absurd (omega arith)
one_of t (suc n) lt = ⊎_elim
    (λ same. omega (arith, ap {B = ℕ} (λ (b : Bool). cond b 1 0) (eq-eqb t n same)))
    (λ other. omega (arith, one_of t n (omega arith)))
    (cases_eq t n)

event_is_no_hold : (what : What) → is_event what ≡ true → is_hold what ≡ false
event_is_no_hold (Free x t) h = refl
event_is_no_hold (Arrive t m) h = refl
event_is_no_hold (Enter t m x) h = refl
event_is_no_hold (Out t) h = refl
event_is_no_hold (Ready t m) h = refl
event_is_no_hold (Told k) h = refl
event_is_no_hold (Untold k) h = refl
event_is_no_hold (Admit t m note) h = refl
event_is_no_hold (Hold t m why) h = absurd (false≢true h)
event_is_no_hold End h = refl

-- how many of the trains the line holds: one or none
held_by : Plant → What → ℕ
held_by plant what = sum_below (λ t. cond (holds_train t what) 1 0) (trains plant)

-- a line is a hold line of one of the trains, or none
one_each : (input : Input) (front : Front) (line : Line) → Follows input front line → 1 ≤ cond (is_hold line.entry.what) 0 1 + held_by input.plant line.entry.what
unfolding held_by
one_each input front line (by_event h) = omega (arith, ap {B = ℕ} (λ (b : Bool). cond b 0 1) (event_is_no_hold line.entry.what h.event))
one_each input front line (by_admission t m note h) = omega (arith, ap {B = ℕ} (λ (what : What). cond (is_hold what) 0 1) h.what)
one_each input front line (by_hold t m why h) =
    let ready = (and_parts (is_ready input front t) (not (is_told_so input front t)) h.due).0 in
    let one = (and_parts (ltb (place front t) (moves input.plant t)) _ (and_parts (ltb (place front t) (moves input.plant t) && not (is_cancelled t (told input.commands front))) _ ready).0).0 in
    let known : t < trains input.plant = known_train input.plant t (place front t) (ltb-true (place front t) (moves input.plant t) one) in
    omega (arith, one_of t (trains input.plant) known, ap (λ (what : What). sum_below (λ u. cond (holds_train u what) 1 0) (trains input.plant)) h.what)
one_each input front line (by_end h) = omega (arith, ap {B = ℕ} (λ (what : What). cond (is_hold what) 0 1) h.what)

-- each line is a hold line of one of the trains, or none
split : (input : Input) (front : Front) → is_lawful input front ≡ true → length front ≤ lines_beside_holds front + sum_below (λ t. lines_that (holds_train t) front) (trains input.plant)
unfolding held_by
split input [] lawful = omega arith
split input (line ∷ front) lawful =
    let rest = split input front (lawful_before input line front lawful) in
    let one = one_each input front line (lawful_last input line front lawful) in
    let sums = sum-plus (λ t. cond (holds_train t line.entry.what) 1 0) (λ t. lines_that (holds_train t) front) (trains input.plant) in
    omega (arith, rest, one, sums)

-- at most so many lines
pub lines_at_most : (input : Input) → IsWellFormed input.plant → (front : Front) → is_lawful input front ≡ true → length front ≤ bound input.plant (length input.commands) * (trains input.plant + 1)
lines_at_most input fine front lawful =
    let most : ℕ = bound input.plant (length input.commands) in
    omega (
      arith,
      split input front lawful,
      bounded input fine front lawful,
      sum-limited (λ t. lines_that (holds_train t) front) most (trains input.plant) (λ t lt. holds_bounded input fine t front lawful),
    )
