-- Where nothing is due, only standing sets are blocked.
use Rattle.std.proofs.Common.{◌≡◌, ℕ, zero, suc, ◌<◌, ◌≤◌, Bool, true, false, ◌&&◌, ◌||◌, cond, eqb, ltb, leb, List, [], ◌∷◌, length, find, is_some, Option, Some, None, refl, sym, ap, ◌∙◌, subst, ⊎_elim, arith}
use Rattle.std.specs.Option.{option_map}
use Rattle.std.specs.List.{list_any}
use Rattle.std.proofs.lemmas.Bool.{cases_Bool, cases_lt, false≢true, and_left, and_right, or_left, or_right, or_from, eqb-true, cond-true, cond-false, le-ltb}
use Rattle.rail_base.specs.declared.history.Entry.{Entry}
use Rattle.rail_base.specs.declared.history.Cause.TheVariants.{Stopped, Closed, Blocked, NoList}
use Rattle.rail_base.specs.declared.orders.Order.{Order}
use Rattle.rail_rules.specs.Numbers.{or_else, first_below, is_in, any_below}
use Rattle.rail_rules.specs.Moves.{stand}
use Rattle.rail_rules.specs.Places.{holds, has_holder}
use Rattle.rail_rules.specs.Analysis.{finds}
use Rattle.rail_rules.specs.Plant.{trains, moves_of, claimed, claims, step_section}
use Rattle.rail_rules.specs.Fronts.{Front, instant, admissions, places, stands, same_entry}
use Rattle.rail_rules.specs.Orders.{Input, told, is_closed, is_stopped, is_cancelled}
use Rattle.rail_rules.specs.Times.{admitted}
use Rattle.rail_rules.specs.Intervals.{is_open, end_time, contains_instant, barring, bars}
use Rattle.rail_rules.specs.Events.{due_lines}
use Rattle.rail_rules.specs.Causes.{place, stop_cause, closed_cause, blocked_cause, blocker, bar, is_repairable, list_cause, cause, places_after}
use Rattle.rail_rules.specs.Lawful.{is_lawful}
use Rattle.rail_rules.proofs.CallerLemmas.{any_below_none, any_below_from, is_in-head}
use Rattle.rail_laws_front.specs.Premises.{IsWellFormed}
use Rattle.rail_laws_front.specs.EventLines.{IsEvent}
use Rattle.rail_laws_front.specs.Invariant.{IsTimely}
use Rattle.rail_laws_front.proofs.CallerLemmas.{bars_claimed, timely, place_in, places_long, are_standing, free_due, stands_or_due}
use Rattle.rail_laws_end.specs.Remaining.{NothingIsBarred}
use Rattle.rail_rules.specs.Apart.{IsStep}

-- nothing passes a test in an empty list
pub none_due : {X : Type 0} (p : X → Bool) (xs : List X) → length xs ≡ 0 → list_any p xs ≡ true → ⊥
none_due p [] short h = false≢true h
none_due p (x ∷ xs) short h = omega arith

-- where nothing is due, each event line stands
pub all_stand : (input : Input) (front : Front) (t : ℕ) (e : Entry) → length (due_lines input front) ≡ 0 → t < trains input.plant → IsEvent input.plant t (admissions front t) (is_cancelled t (told input.commands front)) e → stands front e ≡ true
all_stand input front t e nothing lt event =
    ⊎_elim (λ stood. stood) (λ due. absurd (none_due (same_entry e) (due_lines input front) nothing due)) (stands_or_due input front t e lt event)

-- and each interval with an end has ended
pub all_ended : (input : Input) (front : Front) (t m j : ℕ) → IsTimely input front → length (due_lines input front) ≡ 0 → IsStep input.plant front t m j → is_open input.plant t (admissions front t) m j ≡ false → end_time input.plant t (admissions front t) m j ≤ instant front
all_ended input front t m j h nothing step closed =
    ⊎_elim
    (λ later. absurd (none_due _ (due_lines input front) nothing (free_due input front t m j h step closed later)))
    (λ over. over)
    (cases_lt (instant front) (end_time input.plant t (admissions front t) m j))

first_of_none : (f : ℕ → Bool) (n : ℕ) → ((i : ℕ) → i < n → f i ≡ false) → first_below f n ≡ None
first_of_none f zero h = refl
first_of_none f (suc n) h =
    let below = first_of_none f n (λ i lt. h i (omega arith)) in
    let here : cond (f n) (Some n) None ≡ None = cond-false (f n) (Some n) None (h n (omega arith)) in
    λ i. or_else (below i) (here i)

none_some : {X Y : Type 0} (f : X → Y) (o : Option X) → o ≡ None → is_some (option_map f o) ≡ false
none_some f o h = ap (λ x. is_some (option_map f x)) h

neither_some : {X : Type 0} (a b : Option X) → is_some a ≡ false → is_some b ≡ false → is_some (or_else a b) ≡ false
neither_some (Some x) b ha hb = absurd (false≢true (sym ha))
neither_some None b ha hb = hb

-- a section that nobody holds isn't blocked
pub unheld_unblocked : (input : Input) → IsWellFormed input.plant → (front : Front) → is_lawful input front ≡ true → length (due_lines input front) ≡ 0 → (t x : ℕ) → has_holder (moves_of input.plant) (places input.plant front) x ≡ false → blocker input front t x ≡ None
unheld_unblocked input fine front lawful nothing t x unheld =
    first_of_none (λ u. bars input.plant t u (admissions front u) x (instant front)) (trains input.plant) (λ u lu.
    any_below_none (λ m. any_below (λ j. eqb (step_section input.plant u m j) x && contains_instant input.plant u (admissions front u) m j (instant front)) (barring input.plant t u (place front u) m)) (length (admissions front u)) (λ m lm.
    any_below_none (λ j. eqb (step_section input.plant u m j) x && contains_instant input.plant u (admissions front u) m j (instant front)) (barring input.plant t u (place front u) m) (λ j lj.
    at_step u m j lu lm (bars_claimed input.plant t u (place front u) m j lj))))
  where
    at_step : (u m j : ℕ) → u < trains input.plant → m < length (admissions front u) → j < claims input.plant u m → (eqb (step_section input.plant u m j) x && contains_instant input.plant u (admissions front u) m j (instant front)) ≡ false
    at_step u m j lu lm lj =
        let step : IsStep input.plant front u m j = record { known = lu; admitted_move = lm; step = lj } in
        let opens : Bool = is_open input.plant u (admissions front u) m j in
        let later : Bool = ltb (instant front) (end_time input.plant u (admissions front u) m j) in
        ⊎_elim
        (λ same.
        and_right (eqb (step_section input.plant u m j) x) (contains_instant input.plant u (admissions front u) m j (instant front))
        (and_right (leb (admitted (admissions front u) m) (instant front)) (opens || later)
        (⊎_elim
        (λ is_opened.
        let standing = (are_standing input fine front).only u m j step is_opened in
        let P : ℕ → Type 0 = λ y. is_in y (stand (moves_of input.plant) u (place front u)) ≡ true in
        let Q : ℕ → Type 0 = λ p. is_in x (stand (moves_of input.plant) u p) ≡ true in
        let held : holds (moves_of input.plant) (places input.plant front) u x ≡ true = subst Q (sym (place_in input.plant front u lu)) (subst P (eqb-true (step_section input.plant u m j) x same) standing) in
        absurd (false≢true (sym unheld ∙ any_below_from (λ v. holds (moves_of input.plant) (places input.plant front) v x) (length (places input.plant front)) u (omega (arith, lu, places_long input.plant front)) held)))
        (λ is_closed_now. or_from opens later is_closed_now (le-ltb (instant front) (end_time input.plant u (admissions front u) m j) (all_ended input front u m j (timely input fine front lawful) nothing step is_closed_now)))
        (cases_Bool opens))))
        (λ other. and_left (eqb (step_section input.plant u m j) x) (contains_instant input.plant u (admissions front u) m j (instant front)) other)
        (cases_Bool (eqb (step_section input.plant u m j) x))

no_block : (input : Input) (front : Front) (t : ℕ) (sections : List ℕ) → ((x : ℕ) → is_in x sections ≡ true → blocker input front t x ≡ None) → is_some (blocked_cause input front t sections) ≡ false
no_block input front t [] h = refl
no_block input front t (x ∷ sections) h =
    neither_some (option_map (Blocked x) (blocker input front t x)) (blocked_cause input front t sections)
    (none_some (Blocked x) (blocker input front t x) (h x (is_in-head x sections)))
    (no_block input front t sections (λ y is. h y (or_right (eqb x y) (is_in y sections) is)))

no_closed : (orders : List Order) (sections : List ℕ) → ((x : ℕ) → is_closed x orders ≡ false) → find (λ x. is_closed x orders) sections ≡ None
no_closed orders [] h = refl
no_closed orders (x ∷ sections) h = cond-false (is_closed x orders) (Some x) (find (λ y. is_closed y orders) sections) (h x) ∙ no_closed orders sections h

-- a legal next move of a train isn't barred where nothing is due and no closure and no stop remains
pub legal_unbarred : (input : Input) → IsWellFormed input.plant → (front : Front) → is_lawful input front ≡ true
    → length (due_lines input front) ≡ 0 → NothingIsBarred input front → (t : ℕ)
    → ((x : ℕ) → is_in x (claimed input.plant t (place front t)) ≡ true
    → has_holder (moves_of input.plant) (places input.plant front) x ≡ false)
    → is_some (bar input front t) ≡ false
legal_unbarred input fine front lawful nothing free t unheld =
    let orders : List Order = told input.commands front in
    let sections : List ℕ = claimed input.plant t (place front t) in
    neither_some (stop_cause t orders) (or_else (closed_cause sections orders) (blocked_cause input front t sections))
    (ap is_some (cond-false (is_stopped t orders) (Some Stopped) None (free.going t)))
    (neither_some (closed_cause sections orders) (blocked_cause input front t sections)
    (none_some Closed (find (λ x. is_closed x orders) sections) (no_closed orders sections free.opened))
    (no_block input front t sections (λ x is. unheld_unblocked input fine front lawful nothing t x (unheld x is))))

-- a train that nothing bars and whose repaired list completes has no cause
pub no_cause : (input : Input) (front : Front) (t : ℕ) → is_some (bar input front t) ≡ false → is_repairable input front t ≡ true → is_some (cause input front t) ≡ false
no_cause input front t unbarred repairs =
    let known : Bool = is_repairable input front t || finds (moves_of input.plant) input.plant.tables.depth (places_after input front t) in
    neither_some (bar input front t) (list_cause input front t) unbarred
    (ap is_some (cond-true known None (Some NoList) (or_left (is_repairable input front t) (finds (moves_of input.plant) input.plant.tables.depth (places_after input front t)) repairs)))
