-- The calls of trains at places.
use Rattle.std.proofs.Common.{◌≡◌, ℕ, zero, suc, ◌+◌, ◌-◌, ◌<◌, ◌≤◌, Bool, true, false, eqb, List, [], length, get_or, set, map, replicate, is_some, Option, Some, None, refl, sym, ap, ◌∙◌, ⊎_elim, arith}
use Rattle.std.specs.Option.{unwrap_or, option_or, option_map_or}
use Rattle.std.specs.Vec.{with_item}
use Rattle.std.specs.Global.{Vec}
use Rattle.std.proofs.lemmas.Bool.{cases_eq, cases_Bool}
use Rattle.std.proofs.lemmas.List.{map-set, get_or-map, length-map, length-set, get_or-set_same, get_or-set_other, get_or_past, length-replicate}
use Rattle.rail_base.specs.declared.plant.Call.{Call}
use Rattle.rail_base.specs.declared.plant.Tables.{Tables}
use Rattle.rail_base.specs.declared.plant.TrainRow.{TrainRow}
use Rattle.rail_rules.specs.Numbers.{or_else}
use Rattle.rail_rules.specs.Plant.{Plant, no_train, train, moves, move_row, call_after}
use Rattle.rail_rules.specs.RunHistories.{call_departure, call_arrival, first_departure, due}
use Rattle.rail_rules.specs.Accepted.{is_call_in_range}
use Rattle.rail_rules.proofs.CallerLemmas.{all_below_from, all_below_at}
use Rattle.rail_plan.specs.PlanFaults.{bare}
use Rattle.rail_plan.specs.CallTables.{AreCallsFor, AreLasts, with_calls, no_calls, call_at, departure_within, with_call}
use Rattle.rail_plan.proofs.Spelled.{get_or-map_all}

-- the calls of a row as contracts see them
abbrev pub calls_in : Vec (Option Call) → List (Option Call)
calls_in row = row.items

-- a train that has no list of calls has no departure
pub no_departure : (calls : List (List (Option Call))) (t m places : ℕ) → length calls ≤ t → departure_within calls t m places ≡ None
no_departure calls t m zero past = refl
no_departure calls t m (suc places) past =
    ap (λ row. or_else (call_departure (get_or row m None)) (departure_within calls t (suc m) places)) (get_or_past calls t [] past)
    ∙ no_departure calls t (suc m) places past

-- the table after a call is written
pub set_view : (rows : List (Vec (Option Call))) (k t : ℕ) (row : Vec (Option Call)) (q place : ℕ) (call : Call)
    → k ≡ t → k < length rows → row ≡ get_or rows k row → q ≡ place
    → map calls_in (set rows k (with_item row (q - 1) (Some call))) ≡ with_call (map calls_in rows) t place call
set_view rows k t row q place call same lt is at =
    let row_is : calls_in row ≡ get_or (map calls_in rows) t [] =
    ap calls_in is ∙ sym (get_or-map calls_in rows k row [] lt) ∙ ap (λ i. get_or (map calls_in rows) i []) same in
    map-set calls_in rows k (with_item row (q - 1) (Some call))
    ∙ ap (λ i. set (map calls_in rows) i (set (calls_in row) (q - 1) (Some call))) same
    ∙ ap (λ r. set (map calls_in rows) t (set r (q - 1) (Some call))) row_is
    ∙ ap (λ i. set (map calls_in rows) t (set (get_or (map calls_in rows) t []) (i - 1) (Some call))) at

-- calls made for tables stay so where one more may stand at its place
pub set_made : (tables : Tables) (calls : List (List (Option Call))) (t place : ℕ) (call : Call)
    → AreCallsFor tables calls → t < length calls → 1 ≤ place → place ≤ length (get_or calls t [])
    → is_call_in_range (eqb place (moves (bare tables) t))
    (is_some (move_row (bare tables) t (place - 1)).turn)
    (Some call)
    ≡ true → AreCallsFor tables (with_call calls t place call)
set_made tables calls t place call h lt first last fine =
    let row : List (Option Call) = set (get_or calls t []) (place - 1) (Some call) in
    let after : List (List (Option Call)) = with_call calls t place call in
    let here : get_or after t [] ≡ row = get_or-set_same calls t row [] lt in
    let test : Option Call → ℕ → ℕ → Bool = λ o u m. is_call_in_range (eqb (suc m) (moves (bare tables) u)) (is_some (move_row (bare tables) u m).turn) o in
    record {
      trains = length-set calls t row ∙ h.trains;
      places = λ u. ⊎_elim
          (λ same.
          let at : get_or after u [] ≡ row = ap (λ k. get_or after k []) same ∙ here in
          ap length at ∙ length-set (get_or calls t []) (place - 1) (Some call) ∙ h.places t ∙ ap (moves (bare tables)) (sym same))
          (λ other. ap length (get_or-set_other calls t u row [] other) ∙ h.places u)
          (cases_eq u t);
      fine = λ u lu. all_below_from (λ m. test (call_after (with_calls tables after) u m) u m) (moves (bare tables) u) (λ m lm.
          let before : test (call_after (with_calls tables calls) u m) u m ≡ true = all_below_at (λ n. test (call_after (with_calls tables calls) u n) u n) (moves (bare tables) u) m (h.fine u lu) lm in
          ⊎_elim
          (λ same.
          let at : get_or after u [] ≡ row = ap (λ k. get_or after k []) same ∙ here in
          ⊎_elim
          (λ placed.
          let number : suc m ≡ place = omega arith in
          let within : place - 1 < length (get_or calls t []) = omega (arith, first, last) in
          let found : get_or (get_or after u []) m None ≡ Some call = ap (λ r. get_or r m None) at ∙ ap (λ k. get_or row k None) placed ∙ get_or-set_same (get_or calls t []) (place - 1) (Some call) None within in
          ap (λ o. test o u m) found
          ∙ ap (λ k. test (Some call) k m) same
          ∙ ap (λ k. is_call_in_range (eqb k (moves (bare tables) t)) (is_some (move_row (bare tables) t m).turn) (Some call)) number
          ∙ ap (λ k. is_call_in_range (eqb place (moves (bare tables) t)) (is_some (move_row (bare tables) t k).turn) (Some call)) placed
          ∙ fine)
          (λ elsewhere.
          let found : get_or (get_or after u []) m None ≡ get_or (get_or calls u []) m None =
          ap (λ r. get_or r m None) at ∙ get_or-set_other (get_or calls t []) (place - 1) m (Some call) None elsewhere ∙ ap (λ k. get_or (get_or calls k []) m None) (sym same) in
          ap (λ o. test o u m) found ∙ before)
          (cases_eq m (place - 1)))
          (λ other.
          let found : get_or (get_or after u []) m None ≡ get_or (get_or calls u []) m None = ap (λ r. get_or r m None) (get_or-set_other calls t u row [] other) in
          ap (λ o. test o u m) found ∙ before)
          (cases_eq u t));
    }

-- room for the calls of a train
abbrev pub room_for : TrainRow → List (Option Call)
room_for row = replicate (length row.moves) None

room_is : (tables : Tables) (t : ℕ) → get_or (no_calls tables) t [] ≡ room_for (train (bare tables) t)
room_is tables t = get_or-map_all room_for tables.trains t no_train

no_call_at : (n m : ℕ) → let nothing : Option Call = None in get_or (replicate n nothing) m None ≡ None
no_call_at zero m = refl
no_call_at (suc n) zero = refl
no_call_at (suc n) (suc m) = no_call_at n m

-- none is anywhere
pub none_called : (tables : Tables) (t place : ℕ) → call_at (no_calls tables) t place ≡ None
none_called tables t place = ap (λ r. get_or r (place - 1) None) (room_is tables t) ∙ no_call_at (length (train (bare tables) t).moves) (place - 1)

-- no calls are made for the tables
pub none_made : (tables : Tables) → AreCallsFor tables (no_calls tables)
none_made tables =
    let plant = bare tables in
    record {
      trains = length-map tables.trains room_for;
      places = λ t. ap length (room_is tables t) ∙ length-replicate (length (train plant t).moves) None;
      fine = λ t lt. all_below_from (λ m. is_call_in_range (eqb (suc m) (moves plant t)) (is_some (move_row plant t m).turn) (call_after (with_calls tables (no_calls tables)) t m)) (moves plant t) (λ m lm.
          let none : call_after (with_calls tables (no_calls tables)) t m ≡ None = ap (λ r. get_or r m None) (room_is tables t) ∙ no_call_at (length (train plant t).moves) m in
          ap (λ o. is_call_in_range (eqb (suc m) (moves plant t)) (is_some (move_row plant t m).turn) o) none);
    }

-- one place of the search for a departure
pub departure_step : (calls : List (List (Option Call))) (t place to : ℕ) → 1 ≤ place → place < to → departure_within calls t (place - 1) (to - place) ≡ or_else (call_departure (call_at calls t place)) (departure_within calls t (place + 1 - 1) (to - (place + 1)))
departure_step calls t place to first lt =
    let count : to - place ≡ suc (to - (place + 1)) = omega arith in
    let next : suc (place - 1) ≡ place + 1 - 1 = omega arith in
    ap (departure_within calls t (place - 1)) count
    ∙ ap (λ m. or_else (call_departure (call_at calls t place)) (departure_within calls t m (to - (place + 1)))) next

or_else-no : (o other : Option ℕ) → is_some o ≡ false → or_else o other ≡ other
or_else-no None other none = refl
or_else-no (Some x) other none = absurd (cc)

pub departure_later : (calls : List (List (Option Call))) (t place to : ℕ) (o : Option ℕ) → 1 ≤ place
    → place < to → o ≡ call_departure (call_at calls t place) → is_some o ≡ false
    → departure_within calls t (place - 1) (to - place)
    ≡ departure_within calls t (place + 1 - 1) (to - (place + 1))
departure_later calls t place to o first lt is none =
    departure_step calls t place to first lt
    ∙ ap (λ d. or_else d (departure_within calls t (place + 1 - 1) (to - (place + 1)))) (sym is)
    ∙ or_else-no o (departure_within calls t (place + 1 - 1) (to - (place + 1))) none

-- a call more, where the last place with a departure is one behind which the train had none, and not before that of the call if it has one
pub lasts_more : (calls : List (List (Option Call))) (lasts : List ℕ) (t place last : ℕ) (call : Call)
    → AreLasts calls lasts → t < length calls → 1 ≤ place → place ≤ length (get_or calls t [])
    → get_or lasts t 0 ≤ last → (is_some call.departure ≡ true → place ≤ last)
    → AreLasts (with_call calls t place call) (set lasts t last)
lasts_more calls lasts t place last call are lt first within from reached =
    let row : List (Option Call) = set (get_or calls t []) (place - 1) (Some call) in
    record {
      long = length-set lasts t last ∙ are.long ∙ sym (length-set calls t row);
      none = λ u p behind.
          ⊎_elim
          (λ same.
          let at : get_or (set calls t row) u [] ≡ row = ap (λ k. get_or (set calls t row) k []) same ∙ get_or-set_same calls t row [] lt in
          let most : get_or (set lasts t last) u 0 ≡ last = ap (λ k. get_or (set lasts t last) k 0) same ∙ get_or-set_same lasts t last 0 (omega (arith, lt, are.long)) in
          ⊎_elim
          (λ here.
          let found : get_or (get_or (set calls t row) u []) (p - 1) None ≡ Some call = ap (λ r. get_or r (p - 1) None) at ∙ ap (λ k. get_or row (k - 1) None) here ∙ get_or-set_same (get_or calls t []) (place - 1) (Some call) None (omega (arith, first, within)) in
          ap call_departure found ∙ ⊎_elim
          (λ some. absurd (omega (arith, reached some, behind, most, here)))
          (λ none. no_value call.departure none)
          (cases_Bool (is_some call.departure)))
          (λ elsewhere.
          let found : get_or (get_or (set calls t row) u []) (p - 1) None ≡ get_or (get_or calls t []) (p - 1) None = ap (λ r. get_or r (p - 1) None) at ∙ get_or-set_other (get_or calls t []) (place - 1) (p - 1) (Some call) None (omega (arith, first, elsewhere, behind)) in
          ap call_departure found ∙ are.none t p (omega (arith, from, behind, most)))
          (cases_eq p place))
          (λ other.
          ap (λ (r : List (Option Call)). call_departure (get_or r (p - 1) None)) (get_or-set_other calls t u row [] other)
          ∙ are.none u p (omega (arith, behind, get_or-set_other lasts t u last 0 other)))
          (cases_eq u t);
    }
  where
    no_value : (o : Option ℕ) → is_some o ≡ false → o ≡ None
    no_value None none = refl
    no_value (Some x) none = absurd (cc)

-- where no place behind has a departure there is none
pub none_within : (calls : List (List (Option Call))) (t m places : ℕ) → ((q : ℕ) → m < q → call_departure (call_at calls t q) ≡ None) → departure_within calls t m places ≡ None
none_within calls t m zero none = refl
none_within calls t m (suc places) none =
    let at : m ≡ suc m - 1 = omega arith in
    ap (λ k. or_else (call_departure (get_or (get_or calls t []) k None)) (departure_within calls t (suc m) places)) at
    ∙ ap (λ d. or_else d (departure_within calls t (suc m) places)) (none (suc m) (omega arith))
    ∙ none_within calls t (suc m) places (λ q lt. none q (omega (arith, lt)))

-- the first departure, by the calls alone
departures_are : (tables : Tables) (calls : List (List (Option Call))) (t m places : ℕ) → departure_within calls t m places ≡ first_departure (with_calls tables calls) t m places
departures_are tables calls t m zero = refl
departures_are tables calls t m (suc places) =
    ap (λ o. or_else (call_departure (get_or (get_or calls t []) m None)) o) (departures_are tables calls t (suc m) places)

or_is_else : (o other : Option ℕ) (d : ℕ) → unwrap_or (option_or o other) d ≡ option_map_or (λ (at : ℕ). at) (or_else o other) d
or_is_else None None d = refl
or_is_else None (Some x) d = refl
or_is_else (Some x) other d = refl

-- when a move after the first is due
pub due_later : (tables : Tables) (calls : List (List (Option Call))) (t place last entry : ℕ) → 2 ≤ place
    → last ≡ moves (bare tables) t → entry ≡ (train (bare tables) t).entry
    → unwrap_or
    (option_or (departure_within calls t (place - 1 - 1) (last - (place - 1)))
    (call_arrival (call_at calls t last)))
    entry
    ≡ due (with_calls tables calls) t (place - 1)
due_later tables calls t place last entry second same at =
    let plant : Plant = with_calls tables calls in
    let before : place - 1 ≡ suc (place - 2) = omega arith in
    let first : place - 1 - 1 ≡ place - 2 = omega arith in
    let count : last - (place - 1) ≡ moves plant t - suc (place - 2) = omega (arith, same) in
    let departures : departure_within calls t (place - 1 - 1) (last - (place - 1)) ≡ first_departure plant t (place - 2) (moves plant t - suc (place - 2)) =
    ap (λ k. departure_within calls t k (last - (place - 1))) first
    ∙ ap (departure_within calls t (place - 2)) count
    ∙ departures_are tables calls t (place - 2) (moves plant t - suc (place - 2)) in
    let arrivals : call_arrival (call_at calls t last) ≡ call_arrival (call_after plant t (moves plant t - 1)) = ap (λ k. call_arrival (call_at calls t k)) same in
    or_is_else (departure_within calls t (place - 1 - 1) (last - (place - 1))) (call_arrival (call_at calls t last)) entry
    ∙ ap (λ o. option_map_or (λ (time : ℕ). time) (or_else o (call_arrival (call_at calls t last))) entry) departures
    ∙ ap (λ o. option_map_or (λ (time : ℕ). time) (or_else (first_departure plant t (place - 2) (moves plant t - suc (place - 2))) o) entry) arrivals
    ∙ ap (λ e. option_map_or (λ (time : ℕ). time) (or_else (first_departure plant t (place - 2) (moves plant t - suc (place - 2))) (call_arrival (call_after plant t (moves plant t - 1)))) e) at
    ∙ ap (due plant t) (sym before)
