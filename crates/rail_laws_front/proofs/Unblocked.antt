-- What the admission of a move says of the sections that it claims: each interval there has ended, but for those of the train's own last overlap.
use Rattle.std.proofs.Common.{◌≡◌, ℕ, zero, suc, ◌<◌, ◌≤◌, Bool, true, false, ◌&&◌, ◌||◌, cond, eqb, ltb, leb, List, [], ◌∷◌, length, is_some, Option, Some, None, refl, sym, ◌∙◌, subst, ⊎_elim, arith}
use Rattle.std.specs.Option.{option_map}
use Rattle.std.proofs.lemmas.Bool.{and_parts, and_from, or_cases, or_parts, cases_Bool, cases_lt, false≢true, eqb-true, eq-eqb, le-leb, ltb-false, cond-true, cond_both}
use Rattle.rail_base.specs.declared.history.Cause.TheVariants.{Blocked}
use Rattle.rail_base.specs.declared.orders.Order.{Order}
use Rattle.rail_rules.specs.Numbers.{or_else, first_below, is_in, any_below}
use Rattle.rail_rules.specs.Plant.{Plant, trains, claimed, steps, claims, step_section}
use Rattle.rail_rules.specs.Fronts.{Front, instant, admissions}
use Rattle.rail_rules.specs.Orders.{Input, told}
use Rattle.rail_rules.specs.Times.{admitted}
use Rattle.rail_rules.specs.Intervals.{is_open, end_time, contains_instant, barring, bars}
use Rattle.rail_rules.specs.Causes.{place, bar, stop_cause, closed_cause, blocked_cause, blocker}
use Rattle.rail_rules.proofs.CallerLemmas.{any_below_at, steps_claimed}
use Rattle.rail_rules.specs.Apart.{HasEnded, IsStep}

-- neither of two where their first isn't there
pub neither : {X : Type 0} (a b : Option X) → is_some (or_else a b) ≡ false → (is_some a ≡ false) × (is_some b ≡ false)
neither (Some x) b h = absurd (false≢true (sym h))
neither None b h = (refl, h)

is_some-map : {X Y : Type 0} (f : X → Y) (o : Option X) → is_some (option_map f o) ≡ is_some o
is_some-map f None = refl
is_some-map f (Some x) = refl

pub first_none : (f : ℕ → Bool) (n i : ℕ) → is_some (first_below f n) ≡ false → i < n → f i ≡ false
first_none f zero i h lt = absurd (omega arith)
first_none f (suc n) i h lt =
    let parts = neither (first_below f n) (cond (f n) (Some n) None) h in
    ⊎_elim
    (λ below. first_none f n i parts.0 below)
    (λ above.
    let same : n ≡ i = omega arith in
    let P : ℕ → Type 0 = λ k. f k ≡ false in
    let Q : Option ℕ → Type 0 = λ o. is_some o ≡ false in
    ⊎_elim
    (λ yes_f. absurd (false≢true (sym (subst Q (cond-true (f n) (Some n) None yes_f) parts.1))))
    (λ no_f. subst P same no_f)
    (cases_Bool (f n)))
    (cases_lt i n)

-- none of the sections is blocked
none_blocked : (input : Input) (front : Front) (t : ℕ) (sections : List ℕ) (x : ℕ) → is_some (blocked_cause input front t sections) ≡ false → is_in x sections ≡ true → is_some (blocker input front t x) ≡ false
none_blocked input front t [] x h is = absurd (false≢true is)
none_blocked input front t (y ∷ sections) x h is =
    let parts = neither (option_map (Blocked y) (blocker input front t y)) (blocked_cause input front t sections) h in
    ⊎_elim
    (λ same.
    let P : ℕ → Type 0 = λ k. is_some (blocker input front t k) ≡ false in
    subst P (eqb-true y x same) (sym (is_some-map (Blocked y) (blocker input front t y)) ∙ parts.0))
    (λ later. none_blocked input front t sections x parts.1 later)
    (or_cases (eqb y x) (is_in x sections) is)

-- nothing bars a train: it isn't stopped, and no section that it claims is closed or blocked
pub record IsFree (input : Input) (front : Front) (t : ℕ) : Type 0 where
  pub going : is_some (stop_cause t (told input.commands front)) ≡ false
  pub opened : is_some (closed_cause (claimed input.plant t (place front t)) (told input.commands front)) ≡ false
  pub unblocked : is_some (blocked_cause input front t (claimed input.plant t (place front t))) ≡ false

pub free_parts : (input : Input) (front : Front) (t : ℕ) → is_some (bar input front t) ≡ false → IsFree input front t
free_parts input front t h =
    let orders : List Order = told input.commands front in
    let sections : List ℕ = claimed input.plant t (place front t) in
    let first = neither (stop_cause t orders) (or_else (closed_cause sections orders) (blocked_cause input front t sections)) h in
    let second = neither (closed_cause sections orders) (blocked_cause input front t sections) first.1 in
    record { going = first.0; opened = second.0; unblocked = second.1 }

-- a train without an interval that contains the instant and bars: each of its intervals there that may bar has ended
ended_there : (plant : Plant) (t u : ℕ) (adms : List ℕ) (x now m j : ℕ) → bars plant t u adms x now ≡ false → m < length adms → j < barring plant t u (length adms) m → step_section plant u m j ≡ x → admitted adms m ≤ now → HasEnded plant u adms m j now
ended_there plant t u adms x now m j h lm lj is begun =
    let at_step : ℕ → ℕ → Bool = λ n i. eqb (step_section plant u n i) x && contains_instant plant u adms n i now in
    let none = any_below_at (at_step m) (barring plant t u (length adms) m) j (any_below_at (λ n. any_below (at_step n) (barring plant t u (length adms) n)) (length adms) m h lm) lj in
    let later : Bool = is_open plant u adms m j || ltb now (end_time plant u adms m j) in
    let over : later ≡ false =
    ⊎_elim
    (λ yes_later. absurd (false≢true (sym none ∙ and_from (eqb (step_section plant u m j) x) (contains_instant plant u adms m j now) (eq-eqb (step_section plant u m j) x is)
    (and_from (leb (admitted adms m) now) later (le-leb (admitted adms m) now begun) yes_later))))
    (λ no_later. no_later)
    (cases_Bool later) in
    let parts = or_parts (is_open plant u adms m j) (ltb now (end_time plant u adms m j)) over in
    record { closed = parts.0; by = ltb-false now (end_time plant u adms m j) parts.1 }

-- a claimed section of a train that nothing bars: each interval on it that may bar the train has ended by the instant
pub ended_on_claimed : (input : Input) (front : Front) (t u m j : ℕ) → is_some (bar input front t) ≡ false
    → IsStep input.plant front u m j
    → j < barring input.plant t u (place front u) m
    → is_in (step_section input.plant u m j) (claimed input.plant t (place front t)) ≡ true
    → admitted (admissions front u) m ≤ instant front
    → HasEnded input.plant u (admissions front u) m j (instant front)
ended_on_claimed input front t u m j unbarred step may_bar is begun =
    let x : ℕ = step_section input.plant u m j in
    let free = free_parts input front t unbarred in
    let none = none_blocked input front t (claimed input.plant t (place front t)) x free.unblocked is in
    let clear = first_none (λ v. bars input.plant t v (admissions front v) x (instant front)) (trains input.plant) u none step.known in
    ended_there input.plant t u (admissions front u) x (instant front) m j clear step.admitted_move may_bar refl begun

-- which steps may bar: the needed ones, and all but those of the overlap of the train's own last move
pub needed_bars : (plant : Plant) (t u made m j : ℕ) → j < steps plant u m → j < barring plant t u made m
needed_bars plant t u made m j lt =
    cond_both (eqb u t && eqb (suc m) made) (steps plant u m) (claims plant u m) (λ n. j < n)
    (λ _. lt)
    (λ _. omega (arith, lt, steps_claimed plant u m))

pub other_bars : (plant : Plant) (t u made m j : ℕ) → (u ≡ t → suc m ≡ made → ⊥) → j < claims plant u m → j < barring plant t u made m
other_bars plant t u made m j other lt =
    cond_both (eqb u t && eqb (suc m) made) (steps plant u m) (claims plant u m) (λ n. j < n)
    (λ own. let both = and_parts (eqb u t) (eqb (suc m) made) own in absurd (other (eqb-true u t both.0) (eqb-true (suc m) made both.1)))
    (λ _. lt)

-- and what may bar is claimed
pub bars_claimed : (plant : Plant) (t u made m j : ℕ) → j < barring plant t u made m → j < claims plant u m
bars_claimed plant t u made m j lt =
    cond_both (eqb u t && eqb (suc m) made) (steps plant u m) (claims plant u m) (λ n. j < n → j < claims plant u m)
    (λ _ below. omega (arith, below, steps_claimed plant u m))
    (λ _ below. below)
    lt
