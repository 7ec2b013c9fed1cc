-- What the cause of a waiting train says.
use Rattle.std.proofs.Common.{◌≡◌, ℕ, zero, suc, ◌<◌, Bool, true, false, ◌&&◌, ◌||◌, cond, eqb, ltb, List, [], ◌∷◌, length, find, is_some, Option, Some, None, refl, sym, ap, ◌∙◌, subst, ◌⊎◌, inl, inr, ⊎_elim, arith}
use Rattle.std.specs.Option.{option_map}
use Rattle.std.specs.Cmp.Lexicographic.{bytes_decides}
use Rattle.std.proofs.lemmas.Bool.{cases_Bool, false≢true, and_parts, or_right, or_cases, cond-true, cond-false, eqb-true, ltb-true}
use Rattle.rail_base.specs.declared.history.Cause.{Cause}
use Rattle.rail_base.specs.declared.history.Cause.TheVariants.{Stopped, Closed, Blocked, NoList}
use Rattle.rail_base.specs.declared.history.What.{What}
use Rattle.rail_base.specs.declared.history.What.TheVariants.{Hold}
use Rattle.rail_base.specs.declared.orders.Order.{Order}
use Rattle.rail_rules.specs.Numbers.{or_else, first_below, is_in, any_below}
use Rattle.rail_rules.specs.Moves.{stand}
use Rattle.rail_rules.specs.Places.{holds}
use Rattle.rail_rules.specs.Analysis.{finds}
use Rattle.rail_rules.specs.Plant.{trains, moves_of, claimed, step_section}
use Rattle.rail_rules.specs.Fronts.{Front, instant, admissions, places, cause_code, same_cause, code_of}
use Rattle.rail_rules.specs.Orders.{Input, told, is_closed, is_stopped}
use Rattle.rail_rules.specs.Intervals.{is_open, end_time, contains_instant, barring, bars}
use Rattle.rail_rules.specs.Events.{due_lines}
use Rattle.rail_rules.specs.Causes.{place, stop_cause, closed_cause, blocked_cause, blocker, bar, is_repairable, list_cause, cause, places_after}
use Rattle.rail_rules.specs.Lawful.{is_lawful}
use Rattle.rail_rules.specs.Apart.{IsStep}
use Rattle.rail_rules.proofs.CallerLemmas.{any_below_found, is_in-head}
use Rattle.rail_laws_front.specs.Premises.{IsWellFormed}
use Rattle.rail_laws_front.proofs.CallerLemmas.{bars_claimed, timely, place_in, are_standing}
use Rattle.rail_laws_events.proofs.CallerLemmas.{same_what}
use Rattle.rail_laws_end.proofs.Quiet.{all_ended}

-- what a cause says of the train that waits
pub data IsReason (input : Input) (front : Front) (t : ℕ) (why : Cause) : Type 0 where
  stop : why ≡ Stopped → is_stopped t (told input.commands front) ≡ true → IsReason input front t why
  closure : (x : ℕ) → why ≡ Closed x → is_in x (claimed input.plant t (place front t)) ≡ true
      → is_closed x (told input.commands front) ≡ true → IsReason input front t why
  block : (x u : ℕ) → why ≡ Blocked x u → is_in x (claimed input.plant t (place front t)) ≡ true
      → blocker input front t x ≡ Some u → IsReason input front t why
  list : why ≡ NoList → is_repairable input front t ≡ false → IsReason input front t why

some_one : {X : Type 0} (x y : X) → Some x ≡ Some y → x ≡ y
some_one {X = X} x y same = ap of same
  where
    of : Option X → X
    of (Some z) = z
    of None = x

none_some : {X : Type 0} (x : X) → None ≡ Some x → ⊥
none_some x same = false≢true (ap is_some same)

-- the first of two, or the second where the first isn't there
one_of : {X : Type 0} (a b : Option X) (w : X) → or_else a b ≡ Some w → (a ≡ Some w) ⊎ (b ≡ Some w)
one_of (Some x) b w is = inl is
one_of None b w is = inr is

cond_some : {X : Type 0} (b : Bool) (x w : X) → cond b (Some x) None ≡ Some w → (b ≡ true) × (w ≡ x)
cond_some true x w is = (refl, sym (some_one x w is))
cond_some false x w is = absurd (none_some w is)

cond_none : {X : Type 0} (b : Bool) (x w : X) → cond b None (Some x) ≡ Some w → (b ≡ false) × (w ≡ x)
cond_none true x w is = absurd (none_some w is)
cond_none false x w is = (refl, sym (some_one x w is))

map_some : {X Y : Type 0} (f : X → Y) (o : Option X) (w : Y) → option_map f o ≡ Some w → (x : X) × (o ≡ Some x) × (w ≡ f x)
map_some f (Some x) w is = (x, refl, sym (some_one (f x) w is))
map_some f None w is = absurd (none_some w is)

find_some : (p : ℕ → Bool) (xs : List ℕ) (x : ℕ) → find p xs ≡ Some x → (is_in x xs ≡ true) × (p x ≡ true)
find_some p [] x is = absurd (none_some x is)
find_some p (y ∷ ys) x is =
    ⊎_elim
    (λ here.
    let same : y ≡ x = some_one y x (sym (cond-true (p y) (Some y) (find p ys) here) ∙ is) in
    let P : ℕ → Type 0 = λ z. (is_in z (y ∷ ys) ≡ true) × (p z ≡ true) in
    subst P same (is_in-head y ys, here))
    (λ later.
    let rest = find_some p ys x (sym (cond-false (p y) (Some y) (find p ys) later) ∙ is) in
    (or_right (eqb y x) (is_in x ys) rest.0, rest.1))
    (cases_Bool (p y))

-- the first number that passes a test passes it
first_some : (f : ℕ → Bool) (n u : ℕ) → first_below f n ≡ Some u → (u < n) × (f u ≡ true)
first_some f zero u is = absurd (none_some u is)
first_some f (suc n) u is =
    ⊎_elim
    (λ below. let rest = first_some f n u below in (omega (arith, rest.0), rest.1))
    (λ here.
    let both = cond_some (f n) n u here in
    let P : ℕ → Type 0 = λ k. (k < suc n) × (f k ≡ true) in
    subst P (sym both.1) (omega arith, both.0))
    (one_of (first_below f n) (cond (f n) (Some n) None) u is)

block_some : (input : Input) (front : Front) (t : ℕ) (sections : List ℕ) (why : Cause) → blocked_cause input front t sections ≡ Some why
    → (x : ℕ) × (u : ℕ) × (why ≡ Blocked x u) × (is_in x sections ≡ true) × (blocker input front t x ≡ Some u)
block_some input front t [] why is = absurd (none_some why is)
block_some input front t (x ∷ sections) why is =
    ⊎_elim
    (λ here. let found = map_some (Blocked x) (blocker input front t x) why here in (x, found.0, found.2, is_in-head x sections, found.1))
    (λ later. let rest = block_some input front t sections why later in (rest.0, rest.1, rest.2, or_right (eqb x rest.0) (is_in rest.0 sections) rest.3, rest.4))
    (one_of (option_map (Blocked x) (blocker input front t x)) (blocked_cause input front t sections) why is)

-- the cause says so
pub reason : (input : Input) (front : Front) (t : ℕ) (why : Cause) → cause input front t ≡ Some why → IsReason input front t why
reason input front t why is =
    let orders : List Order = told input.commands front in
    let sections : List ℕ = claimed input.plant t (place front t) in
    ⊎_elim
    (λ barred. ⊎_elim
    (λ stopped. let both = cond_some (is_stopped t orders) Stopped why stopped in stop both.1 both.0)
    (λ others. ⊎_elim
    (λ is_shut.
    let found = map_some Closed (find (λ x. is_closed x orders) sections) why is_shut in
    let parts = find_some (λ x. is_closed x orders) sections found.0 found.1 in
    closure found.0 found.2 parts.0 parts.1)
    (λ blocked. let found = block_some input front t sections why blocked in block found.0 found.1 found.2 found.3 found.4)
    (one_of (closed_cause sections orders) (blocked_cause input front t sections) why others))
    (one_of (stop_cause t orders) (or_else (closed_cause sections orders) (blocked_cause input front t sections)) why barred))
    (λ unknown.
    let both = cond_none (is_repairable input front t || finds (moves_of input.plant) input.plant.tables.depth (places_after input front t)) NoList why unknown in
    list both.1 (neither (is_repairable input front t) (finds (moves_of input.plant) input.plant.tables.depth (places_after input front t)) both.0))
    (one_of (bar input front t) (list_cause input front t) why is)
  where
    neither : (a b : Bool) → (a || b) ≡ false → a ≡ false
    neither true b h = h
    neither false b h = refl

-- where nothing is due, who blocks a section holds it
pub blocker_holds : (input : Input) → IsWellFormed input.plant → (front : Front) → is_lawful input front ≡ true → length (due_lines input front) ≡ 0
    → (t x u : ℕ) → blocker input front t x ≡ Some u → (u < trains input.plant) × (holds (moves_of input.plant) (places input.plant front) u x ≡ true)
blocker_holds input fine front lawful nothing t x u is =
    let found = first_some (λ v. bars input.plant t v (admissions front v) x (instant front)) (trains input.plant) u is in
    let of_move : ℕ → ℕ → Bool = λ m j. eqb (step_section input.plant u m j) x && contains_instant input.plant u (admissions front u) m j (instant front) in
    let move = any_below_found (λ m. any_below (of_move m) (barring input.plant t u (place front u) m)) (length (admissions front u)) found.1 in
    let index = any_below_found (of_move move.0) (barring input.plant t u (place front u) move.0) move.2 in
    let m : ℕ = move.0 in
    let j : ℕ = index.0 in
    let both = and_parts (eqb (step_section input.plant u m j) x) (contains_instant input.plant u (admissions front u) m j (instant front)) index.2 in
    let step : IsStep input.plant front u m j = record { known = found.0; admitted_move = move.1; step = bars_claimed input.plant t u (place front u) m j index.1 } in
    let opens : Bool = is_open input.plant u (admissions front u) m j in
    let later : Bool = ltb (instant front) (end_time input.plant u (admissions front u) m j) in
    let contains = and_parts _ (opens || later) both.1 in
    let is_opened : opens ≡ true =
    ⊎_elim
    (λ open_now. open_now)
    (λ closed_now. ⊎_elim
    (λ open_now. open_now)
    (λ runs_on. absurd (omega (
      arith,
      ltb-true (instant front) (end_time input.plant u (admissions front u) m j) runs_on,
      all_ended input front u m j (timely input fine front lawful) nothing step closed_now,
    )))
    (or_cases opens later contains.1))
    (cases_Bool opens) in
    let standing = (are_standing input fine front).only u m j step is_opened in
    let P : ℕ → Type 0 = λ y. is_in y (stand (moves_of input.plant) u (place front u)) ≡ true in
    let Q : ℕ → Type 0 = λ p. is_in x (stand (moves_of input.plant) u p) ≡ true in
    (found.0, subst Q (sym (place_in input.plant front u found.0)) (subst P (eqb-true (step_section input.plant u m j) x both.0) standing))

-- a cause that is there is some cause
pub some_cause : (o : Option Cause) → is_some o ≡ true → (why : Cause) × (o ≡ Some why)
some_cause (Some why) h = (why, refl)
some_cause None h = absurd (false≢true h)

-- the cause that a hold line states
stated_by : What → Cause
stated_by (Hold t m why) = why
stated_by _ = NoList

-- what has the numbers of a cause is that cause, since the numbers of a hold line tell what it states
pub one_cause : (o : Option Cause) (why : Cause) → same_cause o (Some why) ≡ true → o ≡ Some why
unfolding stated_by
one_cause (Some other) why same =
    let causes : cause_code other ≡ cause_code why = (bytes_decides (cause_code other) (cause_code why)).0 same in
    let codes : code_of (Hold 0 0 other) ≡ code_of (Hold 0 0 why) = λ i. 7 ∷ 0 ∷ 0 ∷ causes i in
    ap (λ (what : What). Some (stated_by what)) (same_what (Hold 0 0 other) (Hold 0 0 why) ((bytes_decides (code_of (Hold 0 0 other)) (code_of (Hold 0 0 why))).1 codes))
one_cause None Stopped same = absurd (false≢true same)
one_cause None (Closed x) same = absurd (false≢true same)
one_cause None (Blocked x u) same = absurd (false≢true same)
one_cause None NoList same = absurd (false≢true same)
