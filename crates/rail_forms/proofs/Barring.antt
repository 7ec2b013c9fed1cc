-- The orders that were told name sections and trains of the plant alone.
use Rattle.std.proofs.Common.{◌≡◌, ℕ, zero, suc, ◌-◌, ◌<◌, ◌≤◌, Bool, true, false, not, ◌&&◌, eqb, List, [], ◌∷◌, ◌++◌, length, slice_get, refl, ⊎_elim, arith}
use Rattle.std.specs.List.{list_all}
use Rattle.std.proofs.lemmas.Bool.{and_parts, and_from, cases_lt, ltb-true, ne_eqb, or_from}
use Rattle.rail_base.specs.declared.history.What.{What}
use Rattle.rail_base.specs.declared.history.What.TheVariants.{Free, Arrive, Enter, Out, Ready, Told, Untold, Admit, Hold, End}
use Rattle.rail_base.specs.declared.orders.Command.{Command}
use Rattle.rail_base.specs.declared.orders.Order.{Order}
use Rattle.rail_base.specs.declared.orders.Order.TheVariants.{Policy, Retire, Close, Reopen, Stop, Go, Cancel, Priority}
use Rattle.rail_rules.specs.Accepted.{are_commands_in_range, is_accepted_input, is_order_in_range}
use Rattle.rail_rules.specs.Fronts.{Front}
use Rattle.rail_rules.specs.Orders.{Input, is_cancelled, is_closed, is_stopped, orders_at, orders_of, told}
use Rattle.rail_rules.specs.Plant.{Plant, trains}
use Rattle.rail_laws_events.proofs.CallerLemmas.{input_parts}
use Rattle.rail_laws_end.specs.Remaining.{NobodyIsCancelled, NothingIsBarred as NothingBars}
use Rattle.rail_forms.specs.Runs.{NothingIsBarred}

-- the orders name sections and trains of the plant
abbrev are_in_range : Plant → List Order → Bool
are_in_range plant orders = list_all (is_order_in_range plant) orders

one_in_range : (plant : Plant) (earliest : ℕ) (commands : List Command) (k : ℕ) (rest : List Order) → are_commands_in_range plant earliest commands ≡ true → are_in_range plant rest ≡ true
    → are_in_range plant (orders_at (slice_get commands k) ++ rest) ≡ true
one_in_range plant earliest [] k rest all fine = fine
one_in_range plant earliest (first ∷ others) zero rest all fine =
    let here = and_parts _ (are_commands_in_range plant first.at others) all in
    and_from (is_order_in_range plant first.what) (are_in_range plant rest) (and_parts _ (is_order_in_range plant first.what) here.0).1 fine
one_in_range plant earliest (first ∷ others) (suc k) rest all fine =
    one_in_range plant first.at others k rest (and_parts _ (are_commands_in_range plant first.at others) all).1 fine

line_in_range : (plant : Plant) (commands : List Command) (what : What) (rest : List Order) → are_commands_in_range plant 0 commands ≡ true → are_in_range plant rest ≡ true
    → are_in_range plant (orders_of commands what ++ rest) ≡ true
line_in_range plant commands (Free x t) rest all fine = fine
line_in_range plant commands (Arrive t m) rest all fine = fine
line_in_range plant commands (Enter t m x) rest all fine = fine
line_in_range plant commands (Out t) rest all fine = fine
line_in_range plant commands (Ready t m) rest all fine = fine
line_in_range plant commands (Told k) rest all fine = one_in_range plant 0 commands (k - 1) rest all fine
line_in_range plant commands (Untold k) rest all fine = fine
line_in_range plant commands (Admit t m note) rest all fine = fine
line_in_range plant commands (Hold t m why) rest all fine = fine
line_in_range plant commands End rest all fine = fine

told_in_range : (plant : Plant) (commands : List Command) (front : Front) → are_commands_in_range plant 0 commands ≡ true → are_in_range plant (told commands front) ≡ true
told_in_range plant commands [] all = refl
told_in_range plant commands (line ∷ front) all = line_in_range plant commands line.entry.what (told commands front) all (told_in_range plant commands front all)

-- what an order before others says, and the others
first_in_range : (plant : Plant) (order : Order) (before : List Order) → are_in_range plant (order ∷ before) ≡ true → (is_order_in_range plant order ≡ true) × (are_in_range plant before ≡ true)
first_in_range plant order before all = and_parts (is_order_in_range plant order) (are_in_range plant before) all

other_number : (y n x : ℕ) → y < n → n ≤ x → eqb y x ≡ false
other_number y n x below past = ne_eqb y x (λ same. omega (arith, same, below, past))

neither : (b c : Bool) → c ≡ false → (b && c) ≡ false
neither true c is = is
neither false c is = refl

-- no section that the plant doesn't have is closed
never_closed : (plant : Plant) (x : ℕ) (orders : List Order) → length plant.tables.sections ≤ x → are_in_range plant orders ≡ true → is_closed x orders ≡ false
never_closed plant x [] past all = refl
never_closed plant x (Close y ∷ before) past all =
    let both = first_in_range plant (Close y) before all in
    or_from (eqb y x) (is_closed x before) (other_number y (length plant.tables.sections) x (ltb-true y (length plant.tables.sections) both.0) past) (never_closed plant x before past both.1)
never_closed plant x (Reopen y ∷ before) past all = neither (not (eqb y x)) (is_closed x before) (never_closed plant x before past (first_in_range plant (Reopen y) before all).1)
never_closed plant x (Policy name ∷ before) past all = never_closed plant x before past (first_in_range plant (Policy name) before all).1
never_closed plant x (Retire name ∷ before) past all = never_closed plant x before past (first_in_range plant (Retire name) before all).1
never_closed plant x (Stop t ∷ before) past all = never_closed plant x before past (first_in_range plant (Stop t) before all).1
never_closed plant x (Go t ∷ before) past all = never_closed plant x before past (first_in_range plant (Go t) before all).1
never_closed plant x (Cancel t ∷ before) past all = never_closed plant x before past (first_in_range plant (Cancel t) before all).1
never_closed plant x (Priority t n ∷ before) past all = never_closed plant x before past (first_in_range plant (Priority t n) before all).1

-- no train that the plant doesn't have is stopped
never_stopped : (plant : Plant) (t : ℕ) (orders : List Order) → trains plant ≤ t → are_in_range plant orders ≡ true → is_stopped t orders ≡ false
never_stopped plant t [] past all = refl
never_stopped plant t (Stop u ∷ before) past all =
    let both = first_in_range plant (Stop u) before all in
    or_from (eqb u t) (is_stopped t before) (other_number u (trains plant) t (ltb-true u (trains plant) both.0) past) (never_stopped plant t before past both.1)
never_stopped plant t (Go u ∷ before) past all = neither (not (eqb u t)) (is_stopped t before) (never_stopped plant t before past (first_in_range plant (Go u) before all).1)
never_stopped plant t (Policy name ∷ before) past all = never_stopped plant t before past (first_in_range plant (Policy name) before all).1
never_stopped plant t (Retire name ∷ before) past all = never_stopped plant t before past (first_in_range plant (Retire name) before all).1
never_stopped plant t (Close x ∷ before) past all = never_stopped plant t before past (first_in_range plant (Close x) before all).1
never_stopped plant t (Reopen x ∷ before) past all = never_stopped plant t before past (first_in_range plant (Reopen x) before all).1
never_stopped plant t (Cancel u ∷ before) past all = never_stopped plant t before past (first_in_range plant (Cancel u) before all).1
never_stopped plant t (Priority u n ∷ before) past all = never_stopped plant t before past (first_in_range plant (Priority u n) before all).1

-- and none is cancelled
never_cancelled : (plant : Plant) (t : ℕ) (orders : List Order) → trains plant ≤ t → are_in_range plant orders ≡ true → is_cancelled t orders ≡ false
never_cancelled plant t [] past all = refl
never_cancelled plant t (Cancel u ∷ before) past all =
    let both = first_in_range plant (Cancel u) before all in
    or_from (eqb u t) (is_cancelled t before) (other_number u (trains plant) t (ltb-true u (trains plant) both.0) past) (never_cancelled plant t before past both.1)
never_cancelled plant t (Policy name ∷ before) past all = never_cancelled plant t before past (first_in_range plant (Policy name) before all).1
never_cancelled plant t (Retire name ∷ before) past all = never_cancelled plant t before past (first_in_range plant (Retire name) before all).1
never_cancelled plant t (Close x ∷ before) past all = never_cancelled plant t before past (first_in_range plant (Close x) before all).1
never_cancelled plant t (Reopen x ∷ before) past all = never_cancelled plant t before past (first_in_range plant (Reopen x) before all).1
never_cancelled plant t (Stop u ∷ before) past all = never_cancelled plant t before past (first_in_range plant (Stop u) before all).1
never_cancelled plant t (Go u ∷ before) past all = never_cancelled plant t before past (first_in_range plant (Go u) before all).1
never_cancelled plant t (Priority u n ∷ before) past all = never_cancelled plant t before past (first_in_range plant (Priority u n) before all).1

-- where nothing of the plant is barred, no number at all is
pub nothing_bars : (input : Input) → is_accepted_input input ≡ true → (front : Front) → NothingIsBarred input front → NothingBars input front
nothing_bars input ok front free =
    let orders : List Order = told input.commands front in
    let all : are_in_range input.plant orders ≡ true = told_in_range input.plant input.commands front (input_parts input ok).1 in
    record {
      opened = λ x. ⊎_elim (free.opened x) (λ past. never_closed input.plant x orders past all) (cases_lt x (length input.plant.tables.sections));
      going = λ t. ⊎_elim (free.going t) (λ past. never_stopped input.plant t orders past all) (cases_lt t (trains input.plant));
    }

-- where no train of the plant is cancelled, no number is
pub nobody_cancelled : (input : Input) → is_accepted_input input ≡ true → (front : Front) → ((t : ℕ) → t < trains input.plant → is_cancelled t (told input.commands front) ≡ false) → NobodyIsCancelled input front
nobody_cancelled input ok front running = λ t.
    ⊎_elim (running t) (λ past. never_cancelled input.plant t (told input.commands front) past (told_in_range input.plant input.commands front (input_parts input ok).1)) (cases_lt t (trains input.plant))
