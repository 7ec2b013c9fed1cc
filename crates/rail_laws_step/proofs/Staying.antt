-- Which event lines of a train stay under orders.
use Rattle.std.proofs.Common.{◌≡◌, ℕ, zero, suc, ◌+◌, min, Bool, true, false, not, ◌&&◌, ◌||◌, cond, eqb, List, [], ◌∷◌, ◌++◌, length, refl, sym, ap, ◌∙◌, ⊎_elim, arith}
use Rattle.std.specs.List.{list_any, filter}
use Rattle.std.proofs.lemmas.Bool.{cases_Bool, false≢true, or_parts, and_left, cond-false, not_from_true, not_from_false, false_from_ne_true, true_from_ne_false}
use Rattle.rail_base.specs.declared.history.Entry.{Entry}
use Rattle.rail_base.specs.declared.history.What.{What}
use Rattle.rail_base.specs.declared.orders.Order.{Order}
use Rattle.rail_base.specs.declared.orders.Order.TheVariants.{Policy, Retire, Close, Reopen, Stop, Go, Cancel, Priority}
use Rattle.rail_base.specs.declared.history.What.TheVariants.{Free, Arrive, Enter, Out, Ready, Told, Untold, Admit, Hold, End}
use Rattle.rail_rules.specs.Numbers.{gather}
use Rattle.rail_rules.specs.Plant.{Plant, trains, moves}
use Rattle.rail_rules.specs.Fronts.{Front, admissions, stands}
use Rattle.rail_rules.specs.Orders.{Input, told, is_cancelled}
use Rattle.rail_rules.specs.Events.{train_events, moved_events, ready_events, ready_line, events}
use Rattle.rail_laws_front.specs.EventLines.{IsEvent}
use Rattle.rail_laws_front.specs.EventLines.IsEvent.{entering, arriving, freeing, leaving, readying}
use Rattle.rail_laws_front.proofs.CallerLemmas.{event_found}
use Rattle.rail_laws_events.specs.Accounts.{tally, all_events, to_come}
use Rattle.rail_laws_events.proofs.CallerLemmas.{tally-append, tally-filter, tally-same}
use Rattle.rail_laws_step.specs.KeptLines.{is_kept}

-- a test with one that always passes counts the same
pub tally_both : (k p : Entry → Bool) (xs : List Entry) → list_any (λ e. not (k e)) xs ≡ false → tally (λ e. k e && p e) xs ≡ tally p xs
tally_both k p [] all = refl
tally_both k p (x ∷ xs) all =
    let both = or_parts (not (k x)) (list_any (λ e. not (k e)) xs) all in
    let here : k x ≡ true = true_from_ne_false (k x) (λ fails. false≢true (sym both.0 ∙ not_from_false (k x) fails)) in
    let rest : tally (λ e. k e && p e) xs ≡ tally p xs = tally_both k p xs both.1 in
    λ i. cond (here i && p x) 1 0 + rest i

-- two conditions in another order
and_swap : (a b c : Bool) → (a && (b && c)) ≡ (b && (a && c))
and_swap true b c = refl
and_swap false true c = refl
and_swap false false c = refl

pub tally_swap : (a b p : Entry → Bool) (xs : List Entry) → tally (λ e. a e && (b e && p e)) xs ≡ tally (λ e. b e && (a e && p e)) xs
tally_swap a b p xs = tally-same (λ e. a e && (b e && p e)) (λ e. b e && (a e && p e)) xs (λ e. and_swap (a e) (b e) (p e))

-- an event line of a train that isn't cancelled stays
pub event_kept : (plant : Plant) (t : ℕ) (adms : List ℕ) (orders : List Order) (c : Bool) (e : Entry) → (c ≡ false → is_cancelled t orders ≡ false) → IsEvent plant t adms c e → is_kept orders e.what ≡ true
event_kept plant t adms orders c e runs (entering m j lm lj is) = ap (λ (x : Entry). is_kept orders x.what) is
event_kept plant t adms orders c e runs (arriving m lm is) = ap (λ (x : Entry). is_kept orders x.what) is
event_kept plant t adms orders c e runs (freeing m j lm lj closed is) = ap (λ (x : Entry). is_kept orders x.what) is
event_kept plant t adms orders c e runs (leaving m lm last is) = ap (λ (x : Entry). is_kept orders x.what) is
event_kept plant t adms orders c e runs (readying m lm left running is) = ap (λ (x : Entry). is_kept orders x.what) is ∙ not_from_false (is_cancelled t orders) (runs running)

-- all event lines stay, of a train that isn't cancelled, or without the ready lines
events_kept : (plant : Plant) (t : ℕ) (adms : List ℕ) (orders : List Order) (c : Bool) → (c ≡ false → is_cancelled t orders ≡ false) → list_any (λ e. not (is_kept orders e.what)) (train_events plant t adms c) ≡ false
events_kept plant t adms orders c runs =
    let lost : Entry → Bool = λ e. not (is_kept orders e.what) in
    false_from_ne_true (list_any lost (train_events plant t adms c)) (λ some.
    let found = event_found plant t adms c lost some in
    false≢true (sym (not_from_true (is_kept orders found.entry.what) (event_kept plant t adms orders c found.entry runs found.event)) ∙ found.passing))

-- no ready line of a cancelled train stays
readies_lost : (plant : Plant) (t : ℕ) (adms : List ℕ) (orders : List Order) (p : Entry → Bool) → is_cancelled t orders ≡ true → (n : ℕ) → tally (λ e. is_kept orders e.what && p e) (gather (λ m. ready_line plant t adms m ∷ []) n) ≡ 0
readies_lost plant t adms orders p cancelled zero = refl
readies_lost plant t adms orders p cancelled (suc n) =
    let k : Entry → Bool = λ e. is_kept orders e.what && p e in
    omega (
      arith,
      tally-append k (gather (λ m. ready_line plant t adms m ∷ []) n) (ready_line plant t adms n ∷ []),
      readies_lost plant t adms orders p cancelled n,
      cond-false {A = ℕ} (k (ready_line plant t adms n)) 1 0 (and_left (not (is_cancelled t orders)) (p (ready_line plant t adms n)) (not_from_true (is_cancelled t orders) cancelled)),
    )

-- the event lines of a train that stay are those of a train that may be cancelled
pub train_kept : (plant : Plant) (t : ℕ) (adms : List ℕ) (orders : List Order) (p : Entry → Bool) → tally p (train_events plant t adms (is_cancelled t orders)) ≡ tally (λ e. is_kept orders e.what && p e) (train_events plant t adms false)
train_kept plant t adms orders p =
    let k : Entry → Bool = λ e. is_kept orders e.what in
    let both : Entry → Bool = λ e. is_kept orders e.what && p e in
    ⊎_elim
    (λ cancelled.
    omega (
      arith,
      ap (λ b. tally p (train_events plant t adms b)) cancelled,
      tally_both k p (train_events plant t adms true) (events_kept plant t adms orders true (λ h. absurd (false≢true (sym h)))),
      tally-append both (moved_events plant t adms) (ready_events plant t adms),
      tally-append both (moved_events plant t adms) [],
      readies_lost plant t adms orders p cancelled (min (suc (length adms)) (moves plant t)),
    ))
    (λ running.
    ap (λ b. tally p (train_events plant t adms b)) running
    ∙ sym (tally_both k p (train_events plant t adms false) (events_kept plant t adms orders false (λ _. running))))
    (cases_Bool (is_cancelled t orders))

-- so the event lines of all trains that don't stand are the lines to come that stay
gather_kept : (plant : Plant) (front : Front) (orders : List Order) (p : Entry → Bool) (n : ℕ)
    → tally p (gather (λ t. train_events plant t (admissions front t) (is_cancelled t orders)) n)
    ≡ tally (λ e. is_kept orders e.what && p e) (gather (λ t. train_events plant t (admissions front t) false) n)
gather_kept plant front orders p zero = refl
gather_kept plant front orders p (suc n) =
    omega (
      arith,
      tally-append p (gather (λ t. train_events plant t (admissions front t) (is_cancelled t orders)) n) (train_events plant n (admissions front n) (is_cancelled n orders)),
      tally-append (λ e. is_kept orders e.what && p e) (gather (λ t. train_events plant t (admissions front t) false) n) (train_events plant n (admissions front n) false),
      gather_kept plant front orders p n,
      train_kept plant n (admissions front n) orders p,
    )

pub open_kept : (input : Input) (front : Front) (p : Entry → Bool) → tally p (filter (λ e. not (stands front e)) (events input front)) ≡ tally (λ e. is_kept (told input.commands front) e.what && p e) (to_come input.plant front)
open_kept input front p =
    let orders : List Order = told input.commands front in
    let open_line : Entry → Bool = λ e. not (stands front e) in
    tally-filter p open_line (events input front)
    ∙ gather_kept input.plant front orders (λ e. open_line e && p e) (trains input.plant)
    ∙ tally_swap (λ e. is_kept orders e.what) open_line p (all_events input.plant front)
    ∙ sym (tally-filter (λ e. is_kept orders e.what && p e) open_line (all_events input.plant front))

-- two lists of orders keep what each of them keeps
cancelled_both : (t : ℕ) (xs ys : List Order) → is_cancelled t (xs ++ ys) ≡ (is_cancelled t xs || is_cancelled t ys)
cancelled_both t [] ys = refl
cancelled_both t (Cancel u ∷ xs) ys = ap (λ b. eqb u t || b) (cancelled_both t xs ys) ∙ or_assoc (eqb u t) (is_cancelled t xs) (is_cancelled t ys)
  where
    or_assoc : (a b c : Bool) → (a || (b || c)) ≡ ((a || b) || c)
    or_assoc true b c = refl
    or_assoc false b c = refl
cancelled_both t (Policy name ∷ xs) ys = cancelled_both t xs ys
cancelled_both t (Retire name ∷ xs) ys = cancelled_both t xs ys
cancelled_both t (Close x ∷ xs) ys = cancelled_both t xs ys
cancelled_both t (Reopen x ∷ xs) ys = cancelled_both t xs ys
cancelled_both t (Stop u ∷ xs) ys = cancelled_both t xs ys
cancelled_both t (Go u ∷ xs) ys = cancelled_both t xs ys
cancelled_both t (Priority u n ∷ xs) ys = cancelled_both t xs ys

not_or : (a b : Bool) → not (a || b) ≡ (not a && not b)
not_or true b = refl
not_or false b = refl

pub kept_both : (xs ys : List Order) (w : What) → is_kept (xs ++ ys) w ≡ (is_kept ys w && is_kept xs w)
kept_both xs ys (Ready t m) = ap not (cancelled_both t xs ys) ∙ not_or (is_cancelled t xs) (is_cancelled t ys) ∙ and_comm (not (is_cancelled t xs)) (not (is_cancelled t ys))
  where
    and_comm : (a b : Bool) → (a && b) ≡ (b && a)
    and_comm true true = refl
    and_comm true false = refl
    and_comm false true = refl
    and_comm false false = refl
kept_both xs ys (Free x t) = refl
kept_both xs ys (Arrive t m) = refl
kept_both xs ys (Enter t m x) = refl
kept_both xs ys (Out t) = refl
kept_both xs ys (Told k) = refl
kept_both xs ys (Untold k) = refl
kept_both xs ys (Admit t m note) = refl
kept_both xs ys (Hold t m why) = refl
kept_both xs ys End = refl
