-- The desk before the first line.
use Rattle.std.proofs.Common.{◌≡◌, ◌≢◌, ℕ, zero, suc, ◌<◌, true, false, not, nat_lt, List, [], ◌∷◌, length, get_or, map, refl, sym, ap, ◌∙◌, subst, arith}
use Rattle.std.specs.Cmp.Lexicographic.{bytes_decides}
use Rattle.std.specs.List.{AllPairs, list_any}
use Rattle.std.proofs.lemmas.Bool.{and_parts, cond-false, cond-true, false_from_ne_true, false≢true, ltb-true, not-true}
use Rattle.std.proofs.lemmas.List.{get_or-map, length-map}
use Rattle.std.proofs.lemmas.List.Folds.{list_any_at}
use Rattle.rail_base.specs.declared.orders.Command.{Command}
use Rattle.rail_rules.specs.Accepted.{are_distinct_names, is_accepted_input}
use Rattle.rail_rules.specs.Numbers.{same_numbers}
use Rattle.rail_rules.specs.Orders.{Input}
use Rattle.rail_rules.specs.Plant.{Plant}
use Rattle.rail_rules.specs.RunHistories.{Seat, seat_of}
use Rattle.rail_policy.specs.Desks.{Table, run_seats}
use Rattle.rail_policy.specs.Seats.{DeskSeat, names_of, no_seat}
use Rattle.rail_ledger.specs.declared.input.RunInput.{RunInput}
use Rattle.rail_ledger.specs.declared.ledger.Ledger.{Ledger}
use Rattle.rail_ledger.specs.declared.ledger.Listed.TheVariants as listed
use Rattle.rail_ledger.specs.Inputs.{input_in}
use Rattle.rail_ledger.specs.Ledgers.{IsAt, listed_in}
use Rattle.rail_engine.specs.Desks.{IsDesk}
use Rattle.rail_engine.proofs.DeckNames.{names_at_first}
use Rattle.rail_engine.specs.Engines.{StandsFor}
use Rattle.rail_engine.specs.Starts.{run_input}

-- a box as run histories speak of it
abbrev handed : DeskSeat → Seat
handed seat = record { name = seat.name; kind = seat.kind; mark = seat.mark }

-- boxes with distinct names
distinct_seats : (seats : List DeskSeat) → are_distinct_names (names_of seats) ≡ true → AllPairs (λ (first second : DeskSeat). first.name ≢ second.name) seats
distinct_seats [] distinct i j d lt inside same = omega (arith, inside)
distinct_seats (seat ∷ rest) distinct i zero d lt inside same = omega (arith, lt)
distinct_seats (seat ∷ rest) distinct zero (suc j) d lt inside same =
    let parts = and_parts (not (list_any (same_numbers seat.name) (names_of rest))) (are_distinct_names (names_of rest)) distinct in
    let within : j < length rest = omega (arith, inside) in
    let none : list_any (same_numbers seat.name) (names_of rest) ≡ false = not-true (list_any (same_numbers seat.name) (names_of rest)) parts.0 in
    let there : j < length (names_of rest) = omega (arith, within, length-map rest (λ (s : DeskSeat). s.name)) in
    false≢true (sym none ∙ list_any_at (same_numbers seat.name) (names_of rest) j (get_or rest j d).name there
    ((bytes_decides seat.name (get_or (names_of rest) j (get_or rest j d).name)).1
    (same ∙ sym (get_or-map (λ (s : DeskSeat). s.name) rest j d (get_or rest j d).name within))))
distinct_seats (seat ∷ rest) distinct (suc i) (suc j) d lt inside same =
    let parts = and_parts (not (list_any (same_numbers seat.name) (names_of rest))) (are_distinct_names (names_of rest)) distinct in
    distinct_seats rest parts.1 i j d (omega (arith, lt)) (omega (arith, inside)) same

-- each box is found by its name
found_seat : (seats : List DeskSeat) (k : ℕ) (d : DeskSeat) → k < length seats → are_distinct_names (names_of seats) ≡ true
    → seat_of (map handed seats) (get_or seats k d).name ≡ handed (get_or seats k d)
found_seat [] k d lt distinct = absurd (omega (arith, lt))
found_seat (seat ∷ rest) zero d lt distinct =
    cond-true (same_numbers seat.name seat.name) (handed seat) (seat_of (map handed rest) seat.name) ((bytes_decides seat.name seat.name).1 refl)
found_seat (seat ∷ rest) (suc k) d lt distinct =
    let name : List ℕ = (get_or rest k d).name in
    let within : k < length rest = omega (arith, lt) in
    let other : same_numbers seat.name name ≡ false =
    false_from_ne_true (same_numbers seat.name name) (λ same. distinct_seats (seat ∷ rest) distinct zero (suc k) d (omega arith) lt ((bytes_decides seat.name name).0 same)) in
    cond-false (same_numbers seat.name name) (handed seat) (seat_of (map handed rest) name) other
    ∙ found_seat rest k d within (and_parts (not (list_any (same_numbers seat.name) (names_of rest))) (are_distinct_names (names_of rest)) distinct).1

-- before the first line the desk is the one that was handed in
pub first_desk : (plant : Plant) (commands : List Command) (table : Table) → is_accepted_input (run_input plant commands table) ≡ true
    → IsDesk (run_input plant commands table) (run_seats table) [] table
first_desk plant commands table accepted =
    let outer = and_parts _ (nat_lt table.force (length (names_of table.seats))) accepted in
    let distinct : are_distinct_names (names_of table.seats) ≡ true = (and_parts _ (are_distinct_names (names_of table.seats)) outer.0).1 in
    let inside : table.force < length table.seats = omega (arith, ltb-true table.force (length (names_of table.seats)) outer.1, length-map table.seats (λ (s : DeskSeat). s.name)) in
    record {
      in_range = inside;
      in_force = sym (get_or-map (λ (s : DeskSeat). s.name) table.seats table.force no_seat [] inside);
      distinct = distinct_seats table.seats distinct;
      boxes = λ k d lt. record {
        kind = sym (ap (λ (s : Seat). s.kind) (found_seat table.seats k d lt distinct));
        mark = λ _. sym (ap (λ (s : Seat). s.mark) (found_seat table.seats k d lt distinct));
      };
      names = names_at_first (names_of table.seats);
    }

-- before the first line the engine stands for no lines
pub begun_stands : (plant : Plant) (commands : List Command) (table : Table) (input : RunInput) (ledger : Ledger) → is_accepted_input (run_input plant commands table) ≡ true
    → input_in input ≡ run_input plant commands table → ledger.input ≡ input → (IsAt [] ledger) × (ledger.listed ≡ listed.Nothing) → StandsFor (run_seats table) [] ledger table
begun_stands plant commands table input ledger accepted is same begun = record {
  at = begun.0;
  run = record {
    of_run = refl;
    desk = subst (λ (i : Input). IsDesk i (run_seats table) [] table) (sym (ap input_in same ∙ is)) (first_desk plant commands table accepted);
  };
  list = ap (λ l. listed_in l ledger.kept.trains ledger.remaining.items) begun.1;
}
