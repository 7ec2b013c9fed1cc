-- What is due: an event line of a train that doesn't stand, or the line of a command that doesn't.
use Rattle.std.proofs.Common.{◌≡◌, ℕ, zero, suc, ◌+◌, ◌<◌, Bool, true, false, not, ◌&&◌, cond, List, [], ◌∷◌, Some, refl, sym, ap, ◌∙◌, subst, ◌⊎◌, inl, inr, ⊎_elim, arith, add-zero}
use Rattle.std.specs.List.{list_any, slice_get, filter}
use Rattle.std.proofs.lemmas.Bool.{and_parts, and_from, or_left, or_right, or_cases, cases_Bool, false≢true, cond-true, cond-false, not-true, not_from_false}
use Rattle.rail_base.specs.declared.history.Entry.{Entry}
use Rattle.rail_base.specs.declared.orders.Command.{Command}
use Rattle.rail_rules.specs.Plant.{trains}
use Rattle.rail_rules.specs.Fronts.{Front, admissions, stands}
use Rattle.rail_rules.specs.Orders.{Input, told, is_cancelled}
use Rattle.rail_rules.specs.Events.{events, command_line, is_written, commands_due, due_lines}
use Rattle.rail_laws_front.specs.EventLines.{IsEvent}
use Rattle.rail_laws_front.proofs.Gathered.{append_cases, append_left, append_right, one_found, one_from}
use Rattle.rail_laws_front.proofs.Indexing.{front_event_found, front_event_from}

-- a filter passes a test where both do
pub filter_found : {X : Type 0} (p q : X → Bool) (xs : List X) → list_any p (filter q xs) ≡ true → list_any (λ x. q x && p x) xs ≡ true
filter_found p q [] h = absurd (false≢true h)
filter_found {X} p q (x ∷ xs) h =
    let P : List X → Type 0 = λ ys. list_any p ys ≡ true in
    ⊎_elim
    (λ yes_q. ⊎_elim
    (λ here. or_left (q x && p x) (list_any (λ y. q y && p y) xs) (and_from (q x) (p x) yes_q here))
    (λ later. or_right (q x && p x) (list_any (λ y. q y && p y) xs) (filter_found p q xs later))
    (or_cases (p x) (list_any p (filter q xs)) (subst P (cond-true (q x) (x ∷ filter q xs) (filter q xs) yes_q) h)))
    (λ no_q. or_right (q x && p x) (list_any (λ y. q y && p y) xs) (filter_found p q xs (subst P (cond-false (q x) (x ∷ filter q xs) (filter q xs) no_q) h)))
    (cases_Bool (q x))

pub filter_from : {X : Type 0} (p q : X → Bool) (xs : List X) → list_any (λ x. q x && p x) xs ≡ true → list_any p (filter q xs) ≡ true
filter_from p q [] h = absurd (false≢true h)
filter_from {X} p q (x ∷ xs) h =
    let P : List X → Type 0 = λ ys. list_any p ys ≡ true in
    ⊎_elim
    (λ here.
    let both = and_parts (q x) (p x) here in
    subst P (sym (cond-true (q x) (x ∷ filter q xs) (filter q xs) both.0)) (or_left (p x) (list_any p (filter q xs)) both.1))
    (λ later. ⊎_elim
    (λ yes_q. subst P (sym (cond-true (q x) (x ∷ filter q xs) (filter q xs) yes_q)) (or_right (p x) (list_any p (filter q xs)) (filter_from p q xs later)))
    (λ no_q. subst P (sym (cond-false (q x) (x ∷ filter q xs) (filter q xs) no_q)) (filter_from p q xs later))
    (cases_Bool (q x)))
    (or_cases (q x && p x) (list_any (λ y. q y && p y) xs) h)

-- the line of a command that doesn't stand
pub record IsCommandDue (input : Input) (front : Front) (commands : List Command) (first : ℕ) (p : Entry → Bool) : Type 0 where
  pub index : ℕ
  pub command : Command
  pub listed : slice_get commands index ≡ Some command
  pub unwritten : is_written front command (first + index) ≡ false
  pub passing : p (command_line input front command (first + index)) ≡ true

pub command_found : (input : Input) (front : Front) (p : Entry → Bool) (first : ℕ) (commands : List Command) → list_any p (commands_due input front first commands) ≡ true → IsCommandDue input front commands first p
command_found input front p first [] h = absurd (false≢true h)
command_found input front p first (command ∷ commands) h =
    let P : List Entry → Type 0 = λ xs. list_any p xs ≡ true in
    let line : Entry = command_line input front command first in
    let rest : List Entry = commands_due input front (suc first) commands in
    ⊎_elim
    (λ here. ⊎_elim
    (λ written. absurd (false≢true (subst P (cond-true (is_written front command first) [] (line ∷ []) written) here)))
    (λ unwritten. record {
      index = 0;
      command = command;
      listed = refl;
      unwritten = ap (is_written front command) (add-zero first) ∙ unwritten;
      passing = ap (λ k. p (command_line input front command k)) (add-zero first) ∙ one_found p line (subst P (cond-false (is_written front command first) [] (line ∷ []) unwritten) here);
    })
    (cases_Bool (is_written front command first)))
    (λ later.
    let found = command_found input front p (suc first) commands later in
    let moved : first + suc found.index ≡ suc first + found.index = omega arith in
    record {
      index = suc found.index;
      command = found.command;
      listed = found.listed;
      unwritten = ap (is_written front found.command) moved ∙ found.unwritten;
      passing = ap (λ k. p (command_line input front found.command k)) moved ∙ found.passing;
    })
    (append_cases p (cond (is_written front command first) [] (line ∷ [])) rest h)

command_at :
    (input : Input)
    (front : Front)
    (p : Entry → Bool)
    (first : ℕ)
    (commands : List Command)
    (i : ℕ)
    (due : Command)
    → slice_get commands i ≡ Some due → is_written front due (first + i) ≡ false
    → p (command_line input front due (first + i)) ≡ true
    → list_any p (commands_due input front first commands) ≡ true
command_at input front p first [] i due listed unwritten passing = cc
command_at input front p first (command ∷ commands) zero due listed unwritten passing =
    let line : Entry = command_line input front command first in
    let same : command ≡ due = cc in
    let P : List Entry → Type 0 = λ xs. list_any p xs ≡ true in
    let open_line : is_written front command first ≡ false = ap (λ c. is_written front c first) same ∙ sym (ap (is_written front due) (add-zero first)) ∙ unwritten in
    let passes : p line ≡ true = ap (λ c. p (command_line input front c first)) same ∙ sym (ap (λ k. p (command_line input front due k)) (add-zero first)) ∙ passing in
    append_left p (cond (is_written front command first) [] (line ∷ [])) (commands_due input front (suc first) commands)
    (subst P (sym (cond-false (is_written front command first) [] (line ∷ []) open_line)) (one_from p line passes))
command_at input front p first (command ∷ commands) (suc i) due listed unwritten passing =
    let moved : first + suc i ≡ suc first + i = omega arith in
    append_right p (cond (is_written front command first) [] (command_line input front command first ∷ [])) (commands_due input front (suc first) commands)
    (command_at input front p (suc first) commands i due listed
    (sym (ap (is_written front due) moved) ∙ unwritten)
    (sym (ap (λ k. p (command_line input front due k)) moved) ∙ passing))

pub command_from : (input : Input) (front : Front) (p : Entry → Bool) (first : ℕ) (commands : List Command) → IsCommandDue input front commands first p → list_any p (commands_due input front first commands) ≡ true
command_from input front p first commands due = command_at input front p first commands due.index due.command due.listed due.unwritten due.passing

-- an event line of a train that doesn't stand
pub record IsEventDue (input : Input) (front : Front) (p : Entry → Bool) : Type 0 where
  pub train : ℕ
  pub known : train < trains input.plant
  pub entry : Entry
  pub event : IsEvent input.plant train (admissions front train) (is_cancelled train (told input.commands front)) entry
  pub unwritten : stands front entry ≡ false
  pub passing : p entry ≡ true

pub due_found : (input : Input) (front : Front) (p : Entry → Bool) → list_any p (due_lines input front) ≡ true → IsEventDue input front p ⊎ IsCommandDue input front input.commands 0 p
due_found input front p h =
    let open_event : Entry → Bool = λ e. not (stands front e) && p e in
    ⊎_elim
    (λ here.
    let found = front_event_found input front open_event (filter_found p (λ e. not (stands front e)) (events input front) here) in
    let both = and_parts (not (stands front found.passes.entry)) (p found.passes.entry) found.passes.passing in
    inl (record {
      train = found.train;
      known = found.known;
      entry = found.passes.entry;
      event = found.passes.event;
      unwritten = not-true (stands front found.passes.entry) both.0;
      passing = both.1;
    }))
    (λ later. inr (command_found input front p 0 input.commands later))
    (append_cases p (filter (λ e. not (stands front e)) (events input front)) (commands_due input front 0 input.commands) h)

pub due_from_event : (input : Input) (front : Front) (p : Entry → Bool) (t : ℕ) (e : Entry)
    → t < trains input.plant
    → IsEvent input.plant t (admissions front t) (is_cancelled t (told input.commands front)) e
    → stands front e ≡ false → p e ≡ true → list_any p (due_lines input front) ≡ true
due_from_event input front p t e lt event unwritten passing =
    let open_event : Entry → Bool = λ x. not (stands front x) && p x in
    append_left p (filter (λ x. not (stands front x)) (events input front)) (commands_due input front 0 input.commands)
    (filter_from p (λ x. not (stands front x)) (events input front)
    (front_event_from input front open_event t e lt event (and_from (not (stands front e)) (p e) (not_from_false (stands front e) unwritten) passing)))

pub due_from_command : (input : Input) (front : Front) (p : Entry → Bool) → IsCommandDue input front input.commands 0 p → list_any p (due_lines input front) ≡ true
due_from_command input front p due =
    append_right p (filter (λ x. not (stands front x)) (events input front)) (commands_due input front 0 input.commands) (command_from input front p 0 input.commands due)
