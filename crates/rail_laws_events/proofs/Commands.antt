-- The line of each command is written once at most.
use Rattle.std.proofs.Common.{◌≡◌, ℕ, zero, suc, ◌+◌, ◌<◌, ◌≤◌, Bool, true, false, cond, eqb, List, [], ◌∷◌, length, Option, Some, None, is_some, refl, sym, ap, ◌∙◌, subst, ⊎_elim, arith, zero-add}
use Rattle.std.specs.List.{slice_get}
use Rattle.std.proofs.lemmas.Bool.{cases_Bool, cases_eq, false≢true, or_cases, or_left, or_right, or_parts, or_from, cond-true, cond-false, eq-eqb, ne_eqb}
use Rattle.rail_base.specs.declared.history.Entry.{Entry}
use Rattle.rail_base.specs.declared.history.What.{What}
use Rattle.rail_base.specs.declared.history.What.TheVariants.{Free, Arrive, Enter, Out, Ready, Told, Untold, Admit, Hold, End}
use Rattle.rail_base.specs.declared.orders.Command.{Command}
use Rattle.rail_rules.specs.Numbers.{sum_below}
use Rattle.rail_rules.specs.Fronts.{Line, Front, at_time, same_entry, stands}
use Rattle.rail_rules.specs.Orders.{Input, told, takes_effect}
use Rattle.rail_rules.specs.Events.{command_line, is_written}
use Rattle.rail_rules.specs.Lawful.{is_lawful}
use Rattle.rail_rules.proofs.CallerLemmas.{sum_below-le, sum_below-lt}
use Rattle.rail_laws_front.specs.Views.{Happens, Follows}
use Rattle.rail_laws_front.specs.Views.Follows.{by_event, by_admission, by_hold, by_end}
use Rattle.rail_laws_front.proofs.CallerLemmas.{lawful_before, lawful_last, stands_on, due_found, same_entry_refl}
use Rattle.rail_laws_events.specs.Accounts.{is_train_event}
use Rattle.rail_laws_events.proofs.Coding.{one_entry}
use Rattle.rail_laws_events.proofs.Written.{event_is_train}
use Rattle.rail_rules.specs.LineCounts.{is_command, lines_that}
use Rattle.rail_laws_events.proofs.Sums.{sum-constant, sum-plus}

-- the line of a command, where there is one, stands
stands_at : Front → ℕ → Option Command → Bool
stands_at front k None = false
stands_at front k (Some command) = is_written front command k

-- how many commands' lines stand
pub commands_written : Input → Front → ℕ
commands_written input front = sum_below (λ k. cond (stands_at front k (slice_get input.commands k)) 1 0) (length input.commands)

one_at_most : (b : Bool) → cond b 1 0 ≤ 1
one_at_most true = omega arith
one_at_most false = omega arith

pub few_written : (input : Input) (front : Front) → commands_written input front ≤ length input.commands
unfolding commands_written
few_written input front =
    omega (
      arith,
      sum_below-le (λ k. cond (stands_at front k (slice_get input.commands k)) 1 0) (λ _. 1) (length input.commands) (λ k _. one_at_most (stands_at front k (slice_get input.commands k))),
      sum-constant 1 (length input.commands),
    )

listed_below : (xs : List Command) (i : ℕ) → i < length xs → is_some (slice_get xs i) ≡ true
listed_below [] i lt = absurd (omega arith)
listed_below (x ∷ xs) zero lt = refl
listed_below (x ∷ xs) (suc i) lt = listed_below xs i (omega arith)

below_listed : (xs : List Command) (i : ℕ) (x : Command) → slice_get xs i ≡ Some x → i < length xs
below_listed [] i x h = absurd (nothing h)
  where
    nothing : slice_get [] i ≡ Some x → ⊥
    nothing e = cc
below_listed (y ∷ xs) zero x h = omega arith
below_listed (y ∷ xs) (suc i) x h = omega (arith, below_listed xs i x h)

-- where all stand, there are as many as commands
pub all_written : (input : Input) (front : Front) → ((k : ℕ) (command : Command) → slice_get input.commands k ≡ Some command → is_written front command k ≡ true) → commands_written input front ≡ length input.commands
unfolding commands_written stands_at
all_written input front h = counted (length input.commands) (omega arith) ∙ omega arith
  where
    here : (k : ℕ) → k < length input.commands → stands_at front k (slice_get input.commands k) ≡ true
    here k lt = at_command k (slice_get input.commands k) refl (listed_below input.commands k lt)
      where
        at_command : (k : ℕ) (o : Option Command) → slice_get input.commands k ≡ o → is_some o ≡ true → stands_at front k o ≡ true
        at_command k None is some = absurd (false≢true some)
        at_command k (Some command) is some = h k command is

    counted : (n : ℕ) → n ≤ length input.commands → sum_below (λ k. cond (stands_at front k (slice_get input.commands k)) 1 0) n ≡ n
    counted zero le = refl
    counted (suc n) le = omega (arith, counted n (omega arith), cond-true {A = ℕ} (stands_at front n (slice_get input.commands n)) 1 0 (here n (omega arith)))

-- what stands goes on standing
written_on : (line : Line) (front : Front) (command : Command) (k : ℕ) → is_written front command k ≡ true → is_written (line ∷ front) command k ≡ true
written_on line front command k written =
    let told_line : Entry = at_time command.at (Told (suc k)) in
    let untold_line : Entry = at_time command.at (Untold (suc k)) in
    ⊎_elim
    (λ is. or_left (stands (line ∷ front) told_line) (stands (line ∷ front) untold_line) (stands_on line front told_line is))
    (λ is. or_right (stands (line ∷ front) told_line) (stands (line ∷ front) untold_line) (stands_on line front untold_line is))
    (or_cases (stands front told_line) (stands front untold_line) written)

no_less : (line : Line) (front : Front) (k : ℕ) (o : Option Command) → cond (stands_at front k o) 1 0 ≤ cond (stands_at (line ∷ front) k o) 1 0
unfolding stands_at
no_less line front k None = omega arith
no_less line front k (Some command) =
    ⊎_elim
    (λ is. omega (arith, cond-true {A = ℕ} (is_written front command k) 1 0 is, cond-true {A = ℕ} (is_written (line ∷ front) command k) 1 0 (written_on line front command k is)))
    (λ isnt. omega (arith, cond-false {A = ℕ} (is_written front command k) 1 0 isnt))
    (cases_Bool (is_written front command k))

pub written_no_less : (input : Input) (line : Line) (front : Front) → commands_written input front ≤ commands_written input (line ∷ front)
unfolding commands_written
written_no_less input line front =
    sum_below-le (λ k. cond (stands_at front k (slice_get input.commands k)) 1 0) (λ k. cond (stands_at (line ∷ front) k (slice_get input.commands k)) 1 0) (length input.commands)
    (λ k _. no_less line front k (slice_get input.commands k))

-- the line of a command is one that didn't stand
pub record IsNewCommand (input : Input) (front : Front) (line : Line) : Type 0 where
  pub index : ℕ
  pub command : Command
  pub listed : slice_get input.commands index ≡ Some command
  pub unwritten : is_written front command index ≡ false
  pub line_is : line.entry ≡ command_line input front command index

pub command_new : (input : Input) (front : Front) (line : Line) → Happens input front line → is_command line.entry.what ≡ true → IsNewCommand input front line
command_new input front line happens kind =
    ⊎_elim
    (λ due.
    let same : line.entry ≡ due.entry = one_entry line.entry due.entry due.passing in
    absurd (no_command line.entry.what kind (ap (λ (x : Entry). is_train_event x.what) same ∙ event_is_train input.plant due.train _ _ due.entry due.event)))
    (λ due.
    let same = zero-add due.index in
    record {
      index = due.index;
      command = due.command;
      listed = due.listed;
      unwritten = sym (ap (is_written front due.command) same) ∙ due.unwritten;
      line_is = one_entry line.entry (command_line input front due.command (0 + due.index)) due.passing ∙ ap (command_line input front due.command) same;
    })
    (due_found input front (same_entry line.entry) happens.due)
  where
    no_command : (what : What) → is_command what ≡ true → is_train_event what ≡ true → ⊥
    no_command (Told k) a b = false≢true b
    no_command (Untold k) a b = false≢true b
    no_command (Free x t) a b = false≢true a
    no_command (Arrive t m) a b = false≢true a
    no_command (Enter t m x) a b = false≢true a
    no_command (Out t) a b = false≢true a
    no_command (Ready t m) a b = false≢true a
    no_command (Admit t m note) a b = false≢true a
    no_command (Hold t m why) a b = false≢true a
    no_command End a b = false≢true a

-- the line of a command writes it
command_stands : (input : Input) (front : Front) (line : Line) (new : IsNewCommand input front line) → is_written (line ∷ front) new.command new.index ≡ true
command_stands input front line new = by_effect (takes_effect input front (told input.commands front) new.command.what) refl
  where
    by_effect : (b : Bool) → takes_effect input front (told input.commands front) new.command.what ≡ b → is_written (line ∷ front) new.command new.index ≡ true
    by_effect true is =
        let told_line : Entry = at_time new.command.at (Told (suc new.index)) in
        let untold_line : Entry = at_time new.command.at (Untold (suc new.index)) in
        let here : line.entry ≡ told_line = new.line_is ∙ ap (λ b. at_time new.command.at (cond b (Told (suc new.index)) (Untold (suc new.index)))) is in
        let P : Entry → Type 0 = λ x. same_entry told_line x ≡ true in
        or_left (stands (line ∷ front) told_line) (stands (line ∷ front) untold_line)
        (or_left (same_entry told_line line.entry) (stands front told_line) (subst P (sym here) (same_entry_refl told_line)))
    by_effect false is =
        let told_line : Entry = at_time new.command.at (Told (suc new.index)) in
        let untold_line : Entry = at_time new.command.at (Untold (suc new.index)) in
        let here : line.entry ≡ untold_line = new.line_is ∙ ap (λ b. at_time new.command.at (cond b (Told (suc new.index)) (Untold (suc new.index)))) is in
        let P : Entry → Type 0 = λ x. same_entry untold_line x ≡ true in
        or_right (stands (line ∷ front) told_line) (stands (line ∷ front) untold_line)
        (or_left (same_entry untold_line line.entry) (stands front untold_line) (subst P (sym here) (same_entry_refl untold_line)))

written_more : (input : Input) (line : Line) (front : Front) → IsNewCommand input front line → suc (commands_written input front) ≤ commands_written input (line ∷ front)
unfolding commands_written stands_at
written_more input line front new =
    let before : ℕ → ℕ = λ k. cond (stands_at front k (slice_get input.commands k)) 1 0 in
    let now : ℕ → ℕ = λ k. cond (stands_at (line ∷ front) k (slice_get input.commands k)) 1 0 in
    let P : Option Command → Type 0 = λ o. cond (stands_at front new.index o) 1 0 < cond (stands_at (line ∷ front) new.index o) 1 0 in
    sum_below-lt before now (length input.commands) new.index (below_listed input.commands new.index new.command new.listed)
    (λ k _. no_less line front k (slice_get input.commands k))
    (subst P (sym new.listed) (omega (
      arith,
      cond-false {A = ℕ} (is_written front new.command new.index) 1 0 new.unwritten,
      cond-true {A = ℕ} (is_written (line ∷ front) new.command new.index) 1 0 (command_stands input front line new),
    )))

-- there are no more lines of commands than commands that are written
pub commands_counted : (input : Input) (front : Front) → is_lawful input front ≡ true → lines_that is_command front ≤ commands_written input front
commands_counted input [] lawful = omega arith
commands_counted input (line ∷ front) lawful = step (lawful_last input line front lawful) (commands_counted input front (lawful_before input line front lawful))
  where
    idle : is_command line.entry.what ≡ false → lines_that is_command front ≤ commands_written input front → lines_that is_command (line ∷ front) ≤ commands_written input (line ∷ front)
    idle none h = omega (arith, h, cond-false {A = ℕ} (is_command line.entry.what) 1 0 none, written_no_less input line front)

    step : Follows input front line → lines_that is_command front ≤ commands_written input front → lines_that is_command (line ∷ front) ≤ commands_written input (line ∷ front)
    step (by_event happens) h =
        ⊎_elim
        (λ kind. omega (arith, h, cond-true {A = ℕ} (is_command line.entry.what) 1 0 kind, written_more input line front (command_new input front line happens kind)))
        (λ none. idle none h)
        (cases_Bool (is_command line.entry.what))
    step (by_admission t m note admits) h = idle (ap is_command admits.what) h
    step (by_hold t m why holds) h = idle (ap is_command holds.what) h
    step (by_end ends) h = idle (ap is_command ends.what) h

-- a number is met once at most
sum-met : (n m : ℕ) → sum_below (λ k. cond (eqb (suc k) n) 1 0) m ≤ 1
sum-met n m = (both m).1
  where
    both : (m : ℕ) → (m < n → sum_below (λ k. cond (eqb (suc k) n) 1 0) m ≡ 0) × (sum_below (λ k. cond (eqb (suc k) n) 1 0) m ≤ 1)
    both zero = (λ _. refl, omega arith)
    both (suc m) =
        let h = both m in (
          λ lt. omega (arith, h.0 (omega arith), cond-false {A = ℕ} (eqb (suc m) n) 1 0 (ne_eqb (suc m) n (λ e. omega arith))),
          ⊎_elim
              (λ same. omega (arith, h.0 (omega arith), one_at_most (eqb (suc m) n)))
              (λ other. omega (arith, h.1, cond-false {A = ℕ} (eqb (suc m) n) 1 0 (ne_eqb (suc m) n other)))
              (cases_eq (suc m) n),
        )

-- the number of a command that a line writes, or 0
named : What → ℕ
named (Told k) = k
named (Untold k) = k
named _ = 0

stands_by : (line : Line) (front : Front) (k : ℕ) (o : Option Command) → cond (stands_at (line ∷ front) k o) 1 0 ≤ cond (stands_at front k o) 1 0 + cond (is_command line.entry.what) (cond (eqb (suc k) (named line.entry.what)) 1 0) 0
unfolding stands_at named
stands_by line front k None = omega arith
stands_by line front k (Some command) =
    let told_line : Entry = at_time command.at (Told (suc k)) in
    let untold_line : Entry = at_time command.at (Untold (suc k)) in
    ⊎_elim
    (λ old. omega (arith, cond-true {A = ℕ} (is_written front command k) 1 0 old, one_at_most (is_written (line ∷ front) command k)))
    (λ not_old. ⊎_elim
    (λ is_told.
    let here : line.entry ≡ told_line = sym (one_entry told_line line.entry is_told) in
    named_now (Told (suc k)) (ap (λ (x : Entry). x.what) here) refl (eq-eqb (suc k) (suc k) refl))
    (λ not_told. ⊎_elim
    (λ is_untold.
    let here : line.entry ≡ untold_line = sym (one_entry untold_line line.entry is_untold) in
    named_now (Untold (suc k)) (ap (λ (x : Entry). x.what) here) refl (eq-eqb (suc k) (suc k) refl))
    (λ not_untold.
    let parts = or_parts (stands front told_line) (stands front untold_line) not_old in
    omega (
      arith,
      cond-false {A = ℕ} (is_written (line ∷ front) command k) 1 0
          (or_from (stands (line ∷ front) told_line) (stands (line ∷ front) untold_line)
          (or_from (same_entry told_line line.entry) (stands front told_line) not_told parts.0)
          (or_from (same_entry untold_line line.entry) (stands front untold_line) not_untold parts.1)),
    ))
    (cases_Bool (same_entry untold_line line.entry)))
    (cases_Bool (same_entry told_line line.entry)))
    (cases_Bool (is_written front command k))
  where
    named_now : (what : What) → line.entry.what ≡ what → is_command what ≡ true
        → eqb (suc k) (named what) ≡ true
        → cond (is_written (line ∷ front) command k) 1 0
        ≤ cond (is_written front command k) 1 0
        + cond (is_command line.entry.what) (cond (eqb (suc k) (named line.entry.what)) 1 0) 0
    named_now what is kind number =
        let P : What → Type 0 = λ w. cond (is_written (line ∷ front) command k) 1 0 ≤ cond (is_written front command k) 1 0 + cond (is_command w) (cond (eqb (suc k) (named w)) 1 0) 0 in
        subst P (sym is) (omega (
          arith,
          one_at_most (is_written (line ∷ front) command k),
          cond-true {A = ℕ} (is_command what) (cond (eqb (suc k) (named what)) 1 0) 0 kind,
          cond-true {A = ℕ} (eqb (suc k) (named what)) 1 0 number,
        ))

-- a line writes one command at most
written_by : (input : Input) (line : Line) (front : Front) → commands_written input (line ∷ front) ≤ commands_written input front + cond (is_command line.entry.what) 1 0
unfolding commands_written
written_by input line front =
    let before : ℕ → ℕ = λ k. cond (stands_at front k (slice_get input.commands k)) 1 0 in
    let now : ℕ → ℕ = λ k. cond (stands_at (line ∷ front) k (slice_get input.commands k)) 1 0 in
    let by_line : ℕ → ℕ = λ k. cond (is_command line.entry.what) (cond (eqb (suc k) (named line.entry.what)) 1 0) 0 in
    omega (
      arith,
      sum_below-le now (λ k. before k + by_line k) (length input.commands) (λ k _. stands_by line front k (slice_get input.commands k)),
      sum-plus before by_line (length input.commands),
      met (is_command line.entry.what) (length input.commands),
    )
  where
    zeros : (n : ℕ) → sum_below (λ _. 0) n ≡ 0
    zeros zero = refl
    zeros (suc n) = omega (arith, zeros n)

    met : (b : Bool) (n : ℕ) → sum_below (λ k. cond b (cond (eqb (suc k) (named line.entry.what)) 1 0) 0) n ≤ cond b 1 0
    met true n = sum-met (named line.entry.what) n
    met false n = omega (arith, zeros n)

-- each command that is written has a line
pub commands_exact : (input : Input) (front : Front) → commands_written input front ≤ lines_that is_command front
unfolding commands_written stands_at
commands_exact input [] = omega (arith, none (length input.commands))
  where
    empty : (k : ℕ) (o : Option Command) → cond (stands_at [] k o) 1 0 ≤ 0
    empty k None = omega arith
    empty k (Some command) = omega arith

    none : (n : ℕ) → sum_below (λ k. cond (stands_at [] k (slice_get input.commands k)) 1 0) n ≡ 0
    none zero = refl
    none (suc n) = omega (arith, none n, empty n (slice_get input.commands n))
commands_exact input (line ∷ front) = omega (arith, commands_exact input front, written_by input line front)
