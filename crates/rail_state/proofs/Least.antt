-- The first pending event is the least due line.
use Rattle.std.proofs.Common.{◌≡◌, ℕ, suc, ◌+◌, ◌<◌, Bool, true, false, not, cond, List, [], ◌∷◌, refl, sym, ap, ◌∙◌, ⊎_elim, arith}
use Rattle.std.specs.Prelude.{count_by}
use Rattle.std.specs.List.{list_any}
use Rattle.std.proofs.lemmas.Bool.{and_from, false≢true, false_from_ne_true, true_from_ne_false, not_from_false, not_from_true, or_left, or_right, or_parts, cond-true}
use Rattle.rail_base.specs.declared.history.Entry.{Entry}
use Rattle.rail_base.specs.declared.history.What.TheVariants.{Told, Untold}
use Rattle.rail_rules.specs.Numbers.{comes_before}
use Rattle.rail_rules.specs.Fronts.{Front, admissions, rank, same_entry}
use Rattle.rail_rules.specs.Orders.{Input, told, is_cancelled, takes_effect}
use Rattle.rail_rules.specs.Events.{command_line, due_lines, is_least}
use Rattle.rail_laws_front.proofs.CallerLemmas.{same_entry_refl, IsCommandDue, IsEventDue, due_found, due_from_command, due_from_event}
use Rattle.rail_laws_events.specs.Accounts.{is_train_event, tally}
use Rattle.rail_laws_events.proofs.CallerLemmas.{some-tally, tally-some, event_is_train}
use Rattle.rail_rules.specs.LineCounts.{is_command}
use Rattle.rail_queue.specs.declared.event.Event.{Event}
use Rattle.rail_queue.specs.Order.{goes_before, key}
use Rattle.rail_state.specs.Events.{event_of}
use Rattle.rail_state.specs.SeenCauses.{AreDue}
use Rattle.rail_state.proofs.EventCodes.{count-cons, count-none, is_due_kind, key_is_rank, one_event, same_event, same_event-self}

-- the line of a command is one of a command
pub command_kind : (input : Input) (front : Front) (command : Rattle.rail_base.specs.declared.orders.Command.Command) (k : ℕ) → is_command (command_line input front command k).what ≡ true
command_kind input front command k = of (takes_effect input front (told input.commands front) command.what)
  where
    of : (b : Bool) → is_command (cond b (Told (suc k)) (Untold (suc k))) ≡ true
    of true = refl
    of false = refl

-- a due line that passes a test
pub record DueLine (input : Input) (front : Front) (p : Entry → Bool) : Type 0 where
  pub entry : Entry
  pub kind : is_due_kind entry.what ≡ true
  pub due : list_any (same_entry entry) (due_lines input front) ≡ true
  pub passes : p entry ≡ true

pub line_found : (input : Input) (front : Front) (p : Entry → Bool) → list_any p (due_lines input front) ≡ true → DueLine input front p
line_found input front p some = ⊎_elim of_train of_command (due_found input front p some)
  where
    of_train : IsEventDue input front p → DueLine input front p
    of_train due = record {
      entry = due.entry;
      kind = or_left (is_train_event due.entry.what) (is_command due.entry.what) (event_is_train input.plant due.train (admissions front due.train) (is_cancelled due.train (told input.commands front)) due.entry due.event);
      due = due_from_event input front (same_entry due.entry) due.train due.entry due.known due.event due.unwritten (same_entry_refl due.entry);
      passes = due.passing;
    }

    of_command : IsCommandDue input front input.commands 0 p → DueLine input front p
    of_command due = record {
      entry = command_line input front due.command (0 + due.index);
      kind = or_right (is_train_event (command_line input front due.command (0 + due.index)).what) (is_command (command_line input front due.command (0 + due.index)).what) (command_kind input front due.command (0 + due.index));
      due = due_from_command input front (same_entry (command_line input front due.command (0 + due.index)))
          (record { index = due.index; command = due.command; listed = due.listed; unwritten = due.unwritten; passing = same_entry_refl (command_line input front due.command (0 + due.index)) });
      passes = due.passing;
    }

-- tests that agree on lines that may be due count the same
tally-agree : (r p q : Entry → Bool) (xs : List Entry) → list_any (λ e. not (r e)) xs ≡ false → ((e : Entry) → r e ≡ true → p e ≡ q e) → tally p xs ≡ tally q xs
tally-agree r p q [] all same = refl
tally-agree r p q (x ∷ xs) all same =
    let both = or_parts (not (r x)) (list_any (λ e. not (r e)) xs) all in
    let here : p x ≡ q x = same x (true_from_ne_false (r x) (λ fails. false≢true (sym both.0 ∙ not_from_false (r x) fails))) in
    let rest : tally p xs ≡ tally q xs = tally-agree r p q xs both.1 same in
    λ i. cond (here i) 1 0 + rest i

pub due_agree : (input : Input) (front : Front) (p q : Entry → Bool) → ((e : Entry) → is_due_kind e.what ≡ true → p e ≡ q e) → tally p (due_lines input front) ≡ tally q (due_lines input front)
due_agree input front p q same =
    let kind : Entry → Bool = λ e. is_due_kind e.what in
    let others : Entry → Bool = λ e. not (is_due_kind e.what) in
    tally-agree kind p q (due_lines input front)
    (false_from_ne_true (list_any others (due_lines input front)) (λ some.
    let line = line_found input front others some in
    false≢true (sym (not_from_true (kind line.entry) line.kind) ∙ line.passes)))
    same

pub first_is_least : (input : Input) (front : Front) (events held : List Event) → AreDue input front events held → (event : Event) (rest : List Event) → events ≡ event ∷ rest
    → list_any (λ other. goes_before other event) events ≡ false → list_any (λ other. goes_before other event) held ≡ false
    → (e : Entry) × (event_of e ≡ event) × (is_least (due_lines input front) e ≡ true)
first_is_least input front events held are event rest first least held_later =
    let here : Entry → Bool = λ d. same_event event (event_of d) in
    let some : 0 < tally here (due_lines input front) =
    omega (arith, are (same_event event), ap (count_by (same_event event)) first, count-cons (same_event event) event rest, cond-true {A = ℕ} (same_event event event) 1 0 (same_event-self event)) in
    let line = line_found input front here (some-tally here (due_lines input front) some) in
    let entry : Entry = line.entry in
    let same : event ≡ event_of entry = one_event event (event_of entry) line.passes in
    let earlier : Entry → Bool = λ d. comes_before (rank d) (rank entry) in
    let agree : (d : Entry) → is_due_kind d.what ≡ true → comes_before (rank d) (rank entry) ≡ goes_before (event_of d) event =
    λ d h. ap (λ k. comes_before k (rank entry)) (sym (key_is_rank d h)) ∙ ap (comes_before (key (event_of d))) (sym (key_is_rank entry line.kind) ∙ ap key (sym same)) in
    let none : tally earlier (due_lines input front) ≡ 0 =
    due_agree input front earlier (λ d. goes_before (event_of d) event) agree
    ∙ sym (are (λ other. goes_before other event))
    ∙ omega (arith, count-none (λ other. goes_before other event) events least, count-none (λ other. goes_before other event) held held_later) in (
      entry,
      sym same,
      and_from (list_any (same_entry entry) (due_lines input front)) (not (list_any earlier (due_lines input front))) line.due
          (not_from_false (list_any earlier (due_lines input front)) (false_from_ne_true (list_any earlier (due_lines input front)) (λ any. omega (arith, none, tally-some earlier (due_lines input front) any)))),
    )
