-- How a line changes which commands are due.
use Rattle.std.proofs.Common.{◌≡◌, ℕ, zero, suc, ◌+◌, ◌≤◌, Bool, true, false, ◌||◌, cond, List, [], ◌∷◌, length, Some, refl, sym, ap, ◌∙◌, subst, arith}
use Rattle.std.specs.List.{slice_get}
use Rattle.std.proofs.lemmas.Bool.{false≢true, or_left, or_right, cond-true, cond-false, false_from_ne_true}
use Rattle.rail_base.specs.declared.history.Entry.{Entry}
use Rattle.rail_base.specs.declared.history.What.{What}
use Rattle.rail_base.specs.declared.history.What.TheVariants.{Told, Untold}
use Rattle.rail_base.specs.declared.orders.Command.{Command}
use Rattle.rail_rules.specs.Fronts.{Front, Line, at_time, same_entry, stands}
use Rattle.rail_rules.specs.Orders.{Input, told, takes_effect}
use Rattle.rail_rules.specs.Events.{command_line, commands_due, is_written}
use Rattle.rail_laws_front.proofs.CallerLemmas.{same_entry_refl}
use Rattle.rail_laws_events.specs.Accounts.{tally}
use Rattle.rail_laws_events.proofs.CallerLemmas.{one_entry, tally-append, IsNewCommand}
use Rattle.rail_rules.specs.LineCounts.{is_command}
use Rattle.rail_laws_step.specs.KeptLines.{IsBlind}

-- the line of a command, as though told
abbrev told_at : Command → ℕ → Entry
told_at command k = at_time command.at (Told (suc k))

abbrev untold_at : Command → ℕ → Entry
untold_at command k = at_time command.at (Untold (suc k))

-- one command's part of the due lines
abbrev part : (Entry → Bool) → Front → Command → ℕ → ℕ
part p front command k = cond (is_written front command k) 0 (cond (p (told_at command k)) 1 0)

by_effect : (p : Entry → Bool) → IsBlind p → (at k : ℕ) (b : Bool) → p (at_time at (cond b (Told k) (Untold k))) ≡ p (at_time at (Told k))
by_effect p blind at k true = refl
by_effect p blind at k false = sym (blind at k)

part_is : (p : Entry → Bool) → IsBlind p → (input : Input) (front : Front) (command : Command) (k : ℕ) → tally p (cond (is_written front command k) [] (command_line input front command k ∷ [])) ≡ part p front command k
part_is p blind input front command k =
    of (is_written front command k) (by_effect p blind command.at (suc k) (takes_effect input front (told input.commands front) command.what))
  where
    of : (written : Bool) → p (command_line input front command k) ≡ p (told_at command k) → tally p (cond written [] (command_line input front command k ∷ [])) ≡ cond written 0 (cond (p (told_at command k)) 1 0)
    of true same = refl
    of false same = omega (arith, ap {B = ℕ} (λ b. cond b 1 0) same)

due_step : (p : Entry → Bool) → IsBlind p → (input : Input) (front : Front) (first : ℕ) (command : Command) (commands : List Command) → tally p (commands_due input front first (command ∷ commands)) ≡ part p front command first + tally p (commands_due input front (suc first) commands)
due_step p blind input front first command commands =
    omega (
      arith,
      tally-append p (cond (is_written front command first) [] (command_line input front command first ∷ [])) (commands_due input front (suc first) commands),
      part_is p blind input front command first,
    )

-- where each command's part is the same, so is the whole
same_parts : (p q : Entry → Bool) → IsBlind p → IsBlind q → (input : Input) (now front : Front) (first : ℕ) (commands : List Command) → ((k : ℕ) → first ≤ k → (command : Command) → part p now command k ≡ part q front command k)
    → tally p (commands_due input now first commands) ≡ tally q (commands_due input front first commands)
same_parts p q blind blind_q input now front first [] each = refl
same_parts p q blind blind_q input now front first (command ∷ commands) each =
    omega (
      arith,
      due_step p blind input now first command commands,
      due_step q blind_q input front first command commands,
      each first (omega arith) command,
      same_parts p q blind blind_q input now front (suc first) commands (λ k le. each k (omega (arith, le))),
    )

-- where one command's part is more by so much, the whole is
one_part : (p : Entry → Bool) → IsBlind p → (input : Input) (now front : Front) (first i x : ℕ) (commands : List Command) (it : Command) → slice_get commands i ≡ Some it
    → ((k : ℕ) → (k ≡ first + i → ⊥) → (command : Command) → part p now command k ≡ part p front command k)
    → part p now it (first + i) + x ≡ part p front it (first + i)
    → tally p (commands_due input now first commands) + x ≡ tally p (commands_due input front first commands)
one_part p blind input now front first i x [] it listed each here = absurd (nothing listed)
  where
    nothing : slice_get [] i ≡ Some it → ⊥
    nothing e = cc
one_part p blind input now front first zero x (command ∷ commands) it listed each here =
    let same : command ≡ it = cc in
    let at_first : first + 0 ≡ first = omega arith in
    omega (
      arith,
      due_step p blind input now first command commands,
      due_step p blind input front first command commands,
      ap (λ k. part p now it k) at_first,
      ap (λ k. part p front it k) at_first,
      here,
      ap (λ c. part p now c first) same,
      ap (λ c. part p front c first) same,
      same_parts p p blind blind input now front (suc first) commands (λ k le. each k (λ e. omega (arith, le, e))),
    )
one_part p blind input now front first (suc i) x (command ∷ commands) it listed each here =
    let moved : first + suc i ≡ suc first + i = omega arith in
    omega (
      arith,
      due_step p blind input now first command commands,
      due_step p blind input front first command commands,
      each first (λ e. omega (arith, e)) command,
      one_part p blind input now front (suc first) i x commands it listed (λ k other. each k (λ e. other (e ∙ moved)))
          (subst (λ k. part p now it k + x ≡ part p front it k) moved here),
    )

told_is_command : (k : ℕ) (e : Entry) → is_command e.what ≡ false → (at : ℕ) → same_entry (at_time at (Told k)) e ≡ false
told_is_command k e idle at = false_from_ne_true (same_entry (at_time at (Told k)) e) (λ same. false≢true (sym idle ∙ ap (λ (x : Entry). is_command x.what) (sym (one_entry (at_time at (Told k)) e same))))

untold_is_command : (k : ℕ) (e : Entry) → is_command e.what ≡ false → (at : ℕ) → same_entry (at_time at (Untold k)) e ≡ false
untold_is_command k e idle at = false_from_ne_true (same_entry (at_time at (Untold k)) e) (λ same. false≢true (sym idle ∙ ap (λ (x : Entry). is_command x.what) (sym (one_entry (at_time at (Untold k)) e same))))

written_same : (line : Line) (front : Front) (command : Command) (k : ℕ) → same_entry (told_at command k) line.entry ≡ false → same_entry (untold_at command k) line.entry ≡ false → is_written (line ∷ front) command k ≡ is_written front command k
written_same line front command k a b = λ i. (a i || stands front (told_at command k)) || (b i || stands front (untold_at command k))

-- a line that is none of a command leaves the commands that are due
pub commands_left : (p : Entry → Bool) → IsBlind p → (input : Input) (line : Line) (front : Front) → is_command line.entry.what ≡ false → tally p (commands_due input (line ∷ front) 0 input.commands) ≡ tally p (commands_due input front 0 input.commands)
commands_left p blind input line front idle =
    same_parts p p blind blind input (line ∷ front) front 0 input.commands
    (λ k _ command. ap {B = ℕ} (λ b. cond b 0 (cond (p (told_at command k)) 1 0)) (written_same line front command k (told_is_command (suc k) line.entry idle command.at) (untold_is_command (suc k) line.entry idle command.at)))

-- the number of a command's line
abbrev number_of : What → ℕ
number_of (Told k) = k
number_of (Untold k) = k
number_of _ = 0

new_number : (input : Input) (front : Front) (line : Line) (new : IsNewCommand input front line) → number_of line.entry.what ≡ suc new.index
new_number input front line new = ap (λ (e : Entry). number_of e.what) new.line_is ∙ of (takes_effect input front (told input.commands front) new.command.what)
  where
    of : (b : Bool) → number_of (cond b (Told (suc new.index)) (Untold (suc new.index))) ≡ suc new.index
    of true = refl
    of false = refl

other_number : (line : Line) (w : What) (at : ℕ) → (number_of line.entry.what ≡ number_of w → ⊥) → same_entry (at_time at w) line.entry ≡ false
other_number line w at other = false_from_ne_true (same_entry (at_time at w) line.entry) (λ same. other (ap (λ (x : Entry). number_of x.what) (sym (one_entry (at_time at w) line.entry same))))

-- the line of a command takes itself out
pub command_left : (p : Entry → Bool) → IsBlind p → (input : Input) (line : Line) (front : Front) → IsNewCommand input front line → tally p (commands_due input (line ∷ front) 0 input.commands) + tally p (line.entry ∷ []) ≡ tally p (commands_due input front 0 input.commands)
command_left p blind input line front new =
    one_part p blind input (line ∷ front) front 0 new.index (tally p (line.entry ∷ [])) input.commands new.command new.listed
    (λ k other command. ap {B = ℕ} (λ b. cond b 0 (cond (p (told_at command k)) 1 0))
    (written_same line front command k
    (other_number line (Told (suc k)) command.at (λ e. other (omega (arith, e, new_number input front line new))))
    (other_number line (Untold (suc k)) command.at (λ e. other (omega (arith, e, new_number input front line new))))))
    (subst (λ k. part p (line ∷ front) new.command k + tally p (line.entry ∷ []) ≡ part p front new.command k) (sym at_zero) here)
  where
    at_zero : 0 + new.index ≡ new.index
    at_zero = omega arith

    effect : Bool
    effect = takes_effect input front (told input.commands front) new.command.what

    stands_now : is_written (line ∷ front) new.command new.index ≡ true
    stands_now = of effect new.line_is
      where
        of : (b : Bool) → line.entry ≡ at_time new.command.at (cond b (Told (suc new.index)) (Untold (suc new.index))) → is_written (line ∷ front) new.command new.index ≡ true
        of true is =
            or_left (stands (line ∷ front) (told_at new.command new.index)) (stands (line ∷ front) (untold_at new.command new.index))
            (or_left (same_entry (told_at new.command new.index) line.entry) (stands front (told_at new.command new.index)) (ap (same_entry (told_at new.command new.index)) is ∙ same_entry_refl (told_at new.command new.index)))
        of false is =
            or_right (stands (line ∷ front) (told_at new.command new.index)) (stands (line ∷ front) (untold_at new.command new.index))
            (or_left (same_entry (untold_at new.command new.index) line.entry) (stands front (untold_at new.command new.index)) (ap (same_entry (untold_at new.command new.index)) is ∙ same_entry_refl (untold_at new.command new.index)))

    here : part p (line ∷ front) new.command new.index + tally p (line.entry ∷ []) ≡ part p front new.command new.index
    here =
        omega (
          arith,
          cond-true {A = ℕ} (is_written (line ∷ front) new.command new.index) 0 (cond (p (told_at new.command new.index)) 1 0) stands_now,
          cond-false {A = ℕ} (is_written front new.command new.index) 0 (cond (p (told_at new.command new.index)) 1 0) new.unwritten,
          ap {B = ℕ} (λ b. cond b 1 0) (ap p new.line_is ∙ by_effect p blind new.command.at (suc new.index) effect),
        )

-- tests that agree on command lines count the same commands
pub commands_same : (p q : Entry → Bool) → IsBlind p → IsBlind q → (input : Input) (front : Front) → ((at k : ℕ) → p (at_time at (Told k)) ≡ q (at_time at (Told k))) → tally p (commands_due input front 0 input.commands) ≡ tally q (commands_due input front 0 input.commands)
commands_same p q blind blind_q input front same =
    same_parts p q blind blind_q input front front 0 input.commands (λ k _ command. ap {B = ℕ} (λ b. cond (is_written front command k) 0 (cond b 1 0)) (same command.at (suc k)))

-- there are no more than commands
part_small : (written passes : Bool) → cond written 0 (cond passes 1 0) ≤ 1
part_small true b = omega arith
part_small false true = omega arith
part_small false false = omega arith

pub commands_few : (input : Input) (front : Front) (first : ℕ) (commands : List Command) → tally (λ _. true) (commands_due input front first commands) ≤ length commands
commands_few input front first [] = omega arith
commands_few input front first (command ∷ commands) =
    omega (
      arith,
      due_step (λ _. true) (λ at k. refl) input front first command commands,
      part_small (is_written front command first) true,
      commands_few input front (suc first) commands,
    )
