-- Each time, class and number occurs once among the due lines.
use Rattle.std.proofs.Common.{◌≡◌, ℕ, suc, ◌+◌, ◌<◌, ◌≤◌, Bool, true, false, not, ◌&&◌, ◌||◌, cond, List, [], ◌∷◌, get_or, refl, sym, ap, ◌∙◌, subst, ⊎_elim, arith}
use Rattle.std.specs.List.{list_any, filter}
use Rattle.std.specs.Cmp.Lexicographic.{bytes_decides}
use Rattle.std.proofs.lemmas.Bool.{cases_Bool, false≢true, and_parts, or_left, or_right, cond-true, cond-false, not-true}
use Rattle.rail_base.specs.declared.history.Entry.{Entry}
use Rattle.rail_base.specs.declared.history.What.TheVariants.{Told, Untold}
use Rattle.rail_base.specs.declared.orders.Command.{Command}
use Rattle.rail_rules.specs.Numbers.{same_numbers}
use Rattle.rail_rules.specs.Plant.{Plant, trains}
use Rattle.rail_rules.specs.Fronts.{Front, at_time, admissions, rank, same_entry, stands}
use Rattle.rail_rules.specs.Orders.{Input, told, is_cancelled, takes_effect}
use Rattle.rail_rules.specs.Events.{moved_events, ready_events, train_events, events, is_written, command_line, commands_due, due_lines}
use Rattle.rail_rules.specs.Lawful.{is_lawful}
use Rattle.rail_rules.proofs.CallerLemmas.{sum_below-le}
use Rattle.rail_laws_front.specs.Premises.{IsWellFormed}
use Rattle.rail_laws_front.specs.EventLines.{IsEvent}
use Rattle.rail_laws_front.specs.EventLines.IsEvent.{entering, arriving, freeing, leaving, readying}
use Rattle.rail_laws_front.proofs.CallerLemmas.{PassesIn, front_event_found, filter_found, IsCommandDue, command_found, same_entry_refl, never_overlap}
use Rattle.rail_laws_events.specs.Accounts.{tally, all_events}
use Rattle.rail_laws_events.proofs.Coding.{one_entry}
use Rattle.rail_laws_events.proofs.Tallies.{tally-append, tally-append_one, tally-none, tally-filter, tally-le}
use Rattle.rail_laws_events.proofs.Distinct.{tally-single, once_among_events}
use Rattle.rail_laws_events.proofs.Written.{few_admissions}
use Rattle.rail_laws_events.proofs.Changing.{tally-gather}
use Rattle.rail_laws_events.proofs.Ranked.{one_rank}

-- the entry has this time, class and number
abbrev pub has_rank : List ℕ → Entry → Bool
has_rank r d = same_numbers (rank d) r

tally-le_in : (p q : Entry → Bool) (xs : List Entry) → ((e : Entry) → list_any (same_entry e) xs ≡ true → p e ≡ true → q e ≡ true) → tally p xs ≤ tally q xs
tally-le_in p q [] h = omega arith
tally-le_in p q (x ∷ xs) h =
    let rest = tally-le_in p q xs (λ e is. h e (or_right (same_entry e x) (list_any (same_entry e) xs) is)) in
    ⊎_elim
    (λ here.
    omega (arith, rest, cond-true {A = ℕ} (p x) 1 0 here, cond-true {A = ℕ} (q x) 1 0 (h x (or_left (same_entry x x) (list_any (same_entry x) xs) (same_entry_refl x)) here)))
    (λ none. omega (arith, rest, cond-false {A = ℕ} (p x) 1 0 none))
    (cases_Bool (p x))

-- the lines of commands
commands_once : (input : Input) (front : Front) (r : List ℕ) (k : ℕ) (commands : List Command) → tally (has_rank r) (commands_due input front k commands) ≤ 1
commands_once input front r k [] = omega arith
commands_once input front r k (command ∷ commands) =
    let rest : tally (has_rank r) (commands_due input front (suc k) commands) ≤ 1 = commands_once input front r (suc k) commands in
    let here : List Entry = cond (is_written front command k) [] (command_line input front command k ∷ []) in
    tally-append_one (has_rank r) here (commands_due input front (suc k) commands) (one_line (is_written front command k)) rest
    (λ now later.
    let found : IsCommandDue input front commands (suc k) (has_rank r) = command_found input front (has_rank r) (suc k) commands later in
    let number_now : suc k ≡ get_or r 2 0 = number_of command k (line_passes (is_written front command k) now) in
    let number_later : suc (suc k + found.index) ≡ get_or r 2 0 = number_of found.command (suc k + found.index) found.passing in
    omega (arith, number_now, number_later))
  where
    one_line : (b : Bool) → tally (has_rank r) (cond b [] (command_line input front command k ∷ [])) ≤ 1
    one_line true = omega arith
    one_line false = tally-single (has_rank r) (command_line input front command k)

    line_passes : (b : Bool) → list_any (has_rank r) (cond b [] (command_line input front command k ∷ [])) ≡ true → has_rank r (command_line input front command k) ≡ true
    line_passes true h = absurd (false≢true h)
    line_passes false h = ⊎_elim (λ is. is) (λ none. absurd (false≢true (sym (ap (λ b. b || false) none) ∙ h))) (cases_Bool (has_rank r (command_line input front command k)))

    either : (b : Bool) (at n : ℕ) → get_or (rank (at_time at (cond b (Told n) (Untold n)))) 2 0 ≡ n
    either true at n = refl
    either false at n = refl

    number_of : (one : Command) (n : ℕ) → has_rank r (command_line input front one n) ≡ true → suc n ≡ get_or r 2 0
    number_of one n h =
        sym (either (takes_effect input front (told input.commands front) one.what) one.at (suc n))
        ∙ ap (λ l. get_or l 2 0) ((bytes_decides (rank (command_line input front one n)) r).0 h)

-- the class of a line of a command, and of an event line of a train
command_class : (input : Input) (front : Front) (command : Command) (n : ℕ) → get_or (rank (command_line input front command n)) 1 9 ≡ 5
command_class input front command n = either (takes_effect input front (told input.commands front) command.what)
  where
    either : (b : Bool) → get_or (rank (at_time command.at (cond b (Told (suc n)) (Untold (suc n))))) 1 9 ≡ 5
    either true = refl
    either false = refl

event_class : (plant : Plant) (t : ℕ) (adms : List ℕ) (c : Bool) (e : Entry) → IsEvent plant t adms c e → get_or (rank e) 1 9 < 5
event_class plant t adms c e (entering m j lm lj is) = omega (arith, ap (λ x. get_or (rank x) 1 9) is)
event_class plant t adms c e (arriving m lm is) = omega (arith, ap (λ x. get_or (rank x) 1 9) is)
event_class plant t adms c e (freeing m j lm lj closed is) = omega (arith, ap (λ x. get_or (rank x) 1 9) is)
event_class plant t adms c e (leaving m lm last is) = omega (arith, ap (λ x. get_or (rank x) 1 9) is)
event_class plant t adms c e (readying m lm lmoves runs is) = omega (arith, ap (λ x. get_or (rank x) 1 9) is)

-- a cancelled train has no more event lines than before
fewer_events : (input : Input) (front : Front) (p : Entry → Bool) → tally p (events input front) ≤ tally p (all_events input.plant front)
fewer_events input front p =
    omega (
      arith,
      tally-gather p (λ t. train_events input.plant t (admissions front t) (is_cancelled t (told input.commands front))) (trains input.plant),
      tally-gather p (λ t. train_events input.plant t (admissions front t) false) (trains input.plant),
      sum_below-le (λ t. tally p (train_events input.plant t (admissions front t) (is_cancelled t (told input.commands front)))) (λ t. tally p (train_events input.plant t (admissions front t) false)) (trains input.plant)
          (λ t _. of_train t (is_cancelled t (told input.commands front))),
    )
  where
    of_train : (t : ℕ) (c : Bool) → tally p (train_events input.plant t (admissions front t) c) ≤ tally p (train_events input.plant t (admissions front t) false)
    of_train t true = omega (arith, tally-append p (moved_events input.plant t (admissions front t)) [], tally-append p (moved_events input.plant t (admissions front t)) (ready_events input.plant t (admissions front t)))
    of_train t false = omega arith

-- a due event line of a train
pub record IsDueEvent (input : Input) (front : Front) (p : Entry → Bool) : Type 0 where
  pub entry : Entry
  pub train : ℕ
  pub known : train < trains input.plant
  pub event : IsEvent input.plant train (admissions front train) (is_cancelled train (told input.commands front)) entry
  pub unwritten : stands front entry ≡ false
  pub passing : p entry ≡ true

due_event : (input : Input) (front : Front) (p : Entry → Bool) → list_any p (filter (λ e. not (stands front e)) (events input front)) ≡ true → IsDueEvent input front p
due_event input front p h =
    let found : PassesIn input front (λ e. not (stands front e) && p e) = front_event_found input front (λ e. not (stands front e) && p e) (filter_found p (λ e. not (stands front e)) (events input front) h) in
    let both = and_parts (not (stands front found.passes.entry)) (p found.passes.entry) found.passes.passing in
    record {
      entry = found.passes.entry;
      train = found.train;
      known = found.known;
      event = found.passes.event;
      unwritten = not-true (stands front found.passes.entry) both.0;
      passing = both.1;
    }

events_once : (input : Input) → IsWellFormed input.plant → (front : Front) → is_lawful input front ≡ true → (r : List ℕ) → tally (has_rank r) (filter (λ e. not (stands front e)) (events input front)) ≤ 1
events_once input fine front lawful r =
    let due : List Entry = filter (λ e. not (stands front e)) (events input front) in
    ⊎_elim
    (λ some.
    let first : IsDueEvent input front (has_rank r) = due_event input front (has_rank r) some in
    let same : (e : Entry) → list_any (same_entry e) due ≡ true → has_rank r e ≡ true → same_entry first.entry e ≡ true = λ e is has.
    let other : IsDueEvent input front (same_entry e) = due_event input front (same_entry e) is in
    let is_other = one_entry e other.entry other.passing in
    let ranks : rank first.entry ≡ rank other.entry =
    (bytes_decides (rank first.entry) r).0 first.passing ∙ sym ((bytes_decides (rank e) r).0 has) ∙ ap rank is_other in
    let equal : first.entry ≡ e = one_rank input fine front lawful first.train other.train first.entry other.entry first.known other.known first.event other.event first.unwritten other.unwritten ranks ∙ sym is_other in
    let P : Entry → Type 0 = λ x. same_entry first.entry x ≡ true in
    subst P equal (same_entry_refl first.entry) in
    omega (
      arith,
      tally-le_in (has_rank r) (same_entry first.entry) due same,
      tally-filter (same_entry first.entry) (λ e. not (stands front e)) (events input front),
      tally-le (λ e. not (stands front e) && same_entry first.entry e) (same_entry first.entry) (events input front) (λ e both. (and_parts (not (stands front e)) (same_entry first.entry e) both).1),
      fewer_events input front (same_entry first.entry),
      once_among_events input.plant fine front (few_admissions input fine front lawful) (never_overlap input fine front lawful) first.entry,
    ))
    (λ none. omega (arith, tally-none (has_rank r) due none))
    (cases_Bool (list_any (has_rank r) due))

pub due_once : (input : Input) → IsWellFormed input.plant → (front : Front) → is_lawful input front ≡ true → (r : List ℕ) → tally (has_rank r) (due_lines input front) ≤ 1
due_once input fine front lawful r =
    tally-append_one (has_rank r) (filter (λ e. not (stands front e)) (events input front)) (commands_due input front 0 input.commands)
    (events_once input fine front lawful r) (commands_once input front r 0 input.commands)
    (λ of_event of_command.
    let event : IsDueEvent input front (has_rank r) = due_event input front (has_rank r) of_event in
    let command : IsCommandDue input front input.commands 0 (has_rank r) = command_found input front (has_rank r) 0 input.commands of_command in
    let first : get_or (rank event.entry) 1 9 ≡ get_or r 1 9 = ap (λ l. get_or l 1 9) ((bytes_decides (rank event.entry) r).0 event.passing) in
    let second : get_or (rank (command_line input front command.command (0 + command.index))) 1 9 ≡ get_or r 1 9 = ap (λ l. get_or l 1 9) ((bytes_decides (rank (command_line input front command.command (0 + command.index))) r).0 command.passing) in
    omega (arith, first, second, command_class input front command.command (0 + command.index), event_class input.plant event.train (admissions front event.train) (is_cancelled event.train (told input.commands front)) event.entry event.event))
