-- What the commands told so far mean, by what is kept.
use Rattle.std.proofs.Common.{◌≡◌, ℕ, zero, suc, ◌+◌, ◌<◌, ◌≤◌, Bool, true, false, not, ◌&&◌, cond, eqb, nat_lt, List, [], ◌∷◌, length, Option, Some, None, refl, sym, ap, ◌∙◌, subst, arith}
use Rattle.std.specs.Prelude.{slice_get, count_by, nat_le}
use Rattle.std.specs.List.{list_all}
use Rattle.std.proofs.lemmas.Bool.{and_parts, leb-true, lt-ltb, ltb-true, ne_eqb}
use Rattle.std.proofs.lemmas.List.Sums.{sum_by-cons}
use Rattle.std.proofs.lemmas.Option.{none-some, same_Some}
use Rattle.rail_base.specs.declared.history.Cause.{Cause}
use Rattle.rail_base.specs.declared.history.Entry.{Entry}
use Rattle.rail_base.specs.declared.history.What.TheVariants.{Told, Untold}
use Rattle.rail_base.specs.declared.orders.Command.{Command}
use Rattle.rail_base.specs.declared.orders.Order.{Order}
use Rattle.rail_base.specs.declared.orders.Order.TheVariants.{Policy, Retire, Close, Reopen, Stop, Go, Cancel, Priority}
use Rattle.rail_base.specs.declared.limits.TheConstants.{COMMANDS}
use Rattle.rail_rules.specs.Accepted.{are_commands_in_range, is_accepted, is_accepted_input, is_order_in_range}
use Rattle.rail_rules.specs.Causes.{closed_cause, stop_cause}
use Rattle.rail_rules.specs.Events.{commands_due}
use Rattle.rail_rules.specs.Fronts.{Front, admissions}
use Rattle.rail_rules.specs.Numbers.{or_else}
use Rattle.rail_rules.specs.Orders.{Input, takes_effect, told}
use Rattle.rail_rules.specs.Plant.{Plant, move_row, moves, claimed, trains}
use Rattle.rail_rules.proofs.CallerLemmas.{accepted_parts, move_in_range, row_in_range}
use Rattle.rail_laws_events.specs.Accounts.{tally}
use Rattle.rail_laws_step.specs.HolderTables.{held_cause}
use Rattle.rail_queue.specs.declared.event.Event.{Event}
use Rattle.rail_orders.specs.OrderTables.{closed_in}
use Rattle.rail_orders.proofs.CallerLemmas.{closed_is, effect_is, stop_is}
use Rattle.rail_state.specs.Events.{command_event, command_events, event_of}
use Rattle.rail_state.specs.SeenCauses.{seen_bar}
use Rattle.rail_state.specs.TrainStates.{bar_by, state_of}
use Rattle.rail_ledger.specs.declared.ledger.Ledger.{Ledger}
use Rattle.rail_ledger.specs.Inputs.{dispatch_in, input_in}
use Rattle.rail_ledger.specs.Ledgers.{IsAt, is_effective}

-- what an accepted input says of its plant and its commands
pub record InputParts (input : Input) : Type 0 where
  pub plant : is_accepted input.plant ≡ true
  pub few : length input.commands ≤ COMMANDS
  pub commands : are_commands_in_range input.plant 0 input.commands ≡ true
  pub force : input.force < length input.deck

pub input_parts : (input : Input) → is_accepted_input input ≡ true → InputParts input
input_parts input accepted =
    let p5 = and_parts _ (nat_lt input.force (length input.deck)) accepted in
    let p4 = and_parts _ _ p5.0 in
    let p3 = and_parts _ _ p4.0 in
    let p2 = and_parts (is_accepted input.plant && nat_le (length input.commands) COMMANDS) (are_commands_in_range input.plant 0 input.commands) p3.0 in
    let p1 = and_parts (is_accepted input.plant) (nat_le (length input.commands) COMMANDS) p2.0 in
    record { plant = p1.0; few = leb-true (length input.commands) COMMANDS p1.1; commands = p2.1; force = ltb-true input.force (length input.deck) p5.1 }

-- the order of a command is within the ranges
pub command_in_range : (plant : Plant) (earliest : ℕ) (commands : List Command) (k : ℕ) (command : Command) → are_commands_in_range plant earliest commands ≡ true
    → slice_get commands k ≡ Some command → is_order_in_range plant command.what ≡ true
command_in_range plant earliest [] k command all is = absurd (none-some command is)
command_in_range plant earliest (first ∷ rest) zero command all is =
    let p2 = and_parts _ (are_commands_in_range plant first.at rest) all in
    ap (λ (c : Command). is_order_in_range plant c.what) (sym (same_Some first command is)) ∙ (and_parts _ (is_order_in_range plant first.what) p2.0).1
command_in_range plant earliest (first ∷ rest) (suc k) command all is =
    command_in_range plant first.at rest k command (and_parts _ (are_commands_in_range plant first.at rest) all).1 is

-- the sections that a move claims are sections of the plant; behind the last move there are none
pub sections_known : (plant : Plant) → is_accepted plant ≡ true → (t : ℕ) → t < trains plant → (m : ℕ) → m < moves plant t
    → list_all (λ x. nat_lt x (length plant.tables.sections)) (claimed plant t m) ≡ true
sections_known plant accepted t known m left =
    (move_in_range (length plant.tables.sections) (move_row plant t m) ((row_in_range plant (accepted_parts plant accepted).trains_in_range t known).each_move m left)).known

-- what bars a move, by the tables
pub bar_is : (front : Front) (ledger : Ledger) → IsAt front ledger → (t : ℕ) → t < trains ledger.input.plant → (own sections : List ℕ)
    → list_all (λ x. nat_lt x (length ledger.input.plant.tables.sections)) sections ≡ true
    → bar_by ledger.orders ledger.state.holders t own sections ≡ seen_bar (told ledger.input.commands.items front) ledger.state.holders t own sections
bar_is front ledger at t known own sections all =
    let orders : List Order = told ledger.input.commands.items front in
    let held : Option Cause = held_cause ledger.state.holders t own sections in
    ap (λ c. or_else c (or_else (closed_in ledger.orders sections) held)) (stop_is ledger.input.plant ledger.input.deck.items ledger.input.force orders ledger.orders t at.ordered known)
    ∙ ap (λ c. or_else (stop_cause t orders) (or_else c held)) (closed_is ledger.input.plant ledger.input.deck.items ledger.input.force orders ledger.orders sections at.ordered all)

-- the lines of the commands that are due before the first line
pub commands_first : (q : Event → Bool) (input : Input) (k : ℕ) (commands : List Command) → tally (λ (e : Entry). q (event_of e)) (commands_due input [] k commands) ≡ count_by q (command_events k commands)
commands_first q input k [] = refl
commands_first q input k (command ∷ rest) =
    by (takes_effect input [] [] command.what) (commands_first q input (suc k) rest)
  where
    by : (b : Bool) → tally (λ (e : Entry). q (event_of e)) (commands_due input [] (suc k) rest) ≡ count_by q (command_events (suc k) rest)
        → cond (q (event_of (record { at = command.at; what = cond b (Told (suc k)) (Untold (suc k)) }))) 1 0 + tally (λ (e : Entry). q (event_of e)) (commands_due input [] (suc k) rest)
        ≡ count_by q (command_events k (command ∷ rest))
    by true h = ap (λ n. cond (q (command_event command.at (suc k))) 1 0 + n) h ∙ sym (sum_by-cons (λ e. cond (q e) 1 0) (command_event command.at (suc k)) (command_events (suc k) rest))
    by false h = ap (λ n. cond (q (command_event command.at (suc k))) 1 0 + n) h ∙ sym (sum_by-cons (λ e. cond (q e) 1 0) (command_event command.at (suc k)) (command_events (suc k) rest))

-- whether an order takes effect, by what is kept
pub effective : (front : Front) (ledger : Ledger) → IsAt front ledger → (order : Order) → is_order_in_range ledger.input.plant order ≡ true
    → is_effective ledger order ≡ takes_effect (input_in ledger.input) front (told ledger.input.commands.items front) order
effective front ledger at (Cancel t) known =
    effect_is (dispatch_in ledger.input) ledger.input.plant front (told ledger.input.commands.items front) ledger.orders (nat_lt 0 (state_of ledger.state.trains t).place) (Cancel t) at.ordered
    (λ u same. let here : t ≡ u = cancelled_same t u same in
    subst (λ v. (v < trains ledger.input.plant) × (not (nat_lt 0 (state_of ledger.state.trains t).place) ≡ eqb (length (admissions front v)) 0)) here
    (ltb-true t (trains ledger.input.plant) known, none_moved (state_of ledger.state.trains t).place (length (admissions front t)) (at.rep.times.places t (ltb-true t (trains ledger.input.plant) known))))
  where
    cancelled_same : (t u : ℕ) → Cancel t ≡ Cancel u → t ≡ u
    cancelled_same t u is = ap (λ (order : Order). number_in order) is
      where
        number_in : Order → ℕ
        number_in (Cancel v) = v
        number_in _ = 0

    none_moved : (place count : ℕ) → place ≡ count → not (nat_lt 0 place) ≡ eqb count 0
    none_moved zero zero is = refl
    none_moved zero (suc count) is = absurd (omega (arith, is))
    none_moved (suc place) zero is = absurd (omega (arith, is))
    none_moved (suc place) (suc count) is = ap not (lt-ltb 0 (suc place) (omega arith)) ∙ sym (ne_eqb (suc count) 0 (λ e. omega (arith, e)))
effective front ledger at (Policy name) known = effect_is (dispatch_in ledger.input) ledger.input.plant front _ ledger.orders false (Policy name) at.ordered (λ u same. absurd (other same))
  where
    other : {u : ℕ} → Policy name ≡ Cancel u → ⊥
    other same = cc
effective front ledger at (Retire name) known = effect_is (dispatch_in ledger.input) ledger.input.plant front _ ledger.orders false (Retire name) at.ordered (λ u same. absurd (other same))
  where
    other : {u : ℕ} → Retire name ≡ Cancel u → ⊥
    other same = cc
effective front ledger at (Close x) known = refl
effective front ledger at (Reopen x) known = refl
effective front ledger at (Stop t) known = refl
effective front ledger at (Go t) known = refl
effective front ledger at (Priority t n) known = refl

-- where nothing bars a move none of its sections is taken
pub held_free : (orders : List Order) (holders : List (Option ℕ)) (t : ℕ) (own sections : List ℕ) → seen_bar orders holders t own sections ≡ None → held_cause holders t own sections ≡ None
held_free orders holders t own sections free = last (closed_cause sections orders) _ (last (stop_cause t orders) _ free)
  where
    last : (a b : Option Cause) → or_else a b ≡ None → b ≡ None
    last None b none = none
    last (Some cause) b none = absurd (none-some cause (sym none))
