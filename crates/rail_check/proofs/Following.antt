-- A file that is checked as it is read.
use Rattle.std.proofs.Common.{◌≡◌, ℕ, true, ◌++◌, ◌∷◌, List, [], Option, Some, None, refl, sym, ap, ◌∙◌, subst, append_assoc}
use Rattle.std.specs.Prelude.{IfNone, IfSome, IsNone}
use Rattle.rail_base.specs.declared.history.Note.TheVariants.{Pulled, Appended, Fresh}
use Rattle.rail_base.specs.declared.history.What.{What}
use Rattle.rail_base.specs.declared.history.What.TheVariants.{Free, Arrive, Enter, Out, Ready, Told, Untold, Admit, Hold, End}
use Rattle.rail_base.specs.declared.names.Names.{Names}
use Rattle.rail_base.specs.declared.refusals.Fault.{Fault}
use Rattle.rail_base.specs.declared.refusals.Fault.TheVariants.{Refused, OutOfMemory}
use Rattle.rail_history.specs.declared.file_lines.FileLines.{FileLines}
use Rattle.rail_history.specs.declared.read_line.ReadLine.{ReadLine}
use Rattle.rail_history.specs.HistoryLines.{IsRefusedIn}
use Rattle.rail_history.specs.Lines.{brought}
use Rattle.rail_history.specs.LineReads.{line_read, trains_read}
use Rattle.rail_history.specs.ReadFiles.{GoesOn, IsReadTo, IsRefusedBehind}
use Rattle.rail_laws_verdict.specs.Verdicts.{verdict}
use Rattle.rail_laws_events.proofs.CallerLemmas.{input_parts}
use Rattle.rail_laws_text.proofs.CallerLemmas.{accepted_named}
use Rattle.rail_ledger.specs.Inputs.{input_in}
use Rattle.rail_ledger.specs.Ledgers.{line_taken}
use Rattle.rail_ledger.specs.declared.input.RunInput.{RunInput}
use Rattle.rail_rules.specs.Accepted.{is_accepted_input}
use Rattle.rail_rules.specs.Fronts.{Line}
use Rattle.rail_rules.specs.Plant.{Plant}
use Rattle.rail_rules.specs.WritableLines.{IsNamed}
use Rattle.rail_text.specs.Names.{HasNames}
use Rattle.rail_check.specs.Checkers.{ChecksLine, Decides, IsChecked, IsDecidedAt, KeepsUp, Refuses}
use Rattle.rail_check.specs.declared.checker.Checker.{Checker}
use Rattle.rail_check.specs.declared.verdict.Verdict.{Verdict}
use Rattle.rail_check.proofs.TakenLines.{taken_line}

-- the trains that a line brings bring themselves
brought_again : (what : What) (trains : List ℕ) → brought what (brought what trains) ≡ brought what trains
brought_again (Free x t) trains = refl
brought_again (Arrive t m) trains = refl
brought_again (Enter t m x) trains = refl
brought_again (Out t) trains = refl
brought_again (Ready t m) trains = refl
brought_again (Told k) trains = refl
brought_again (Untold k) trains = refl
brought_again (Admit t m Pulled) trains = refl
brought_again (Admit t m Appended) trains = refl
brought_again (Admit t m Fresh) trains = refl
brought_again (Hold t m why) trains = refl
brought_again End trains = refl

-- the line that is judged is the one that was read
read_taken : (line : ReadLine) (trains : List ℕ) → trains ≡ brought line.entry.what (trains_read line) → line_taken line.entry trains ≡ line_read line
read_taken line trains is =
    let all : List ℕ = brought line.entry.what (trains_read line) in
    let again = brought_again line.entry.what (trains_read line) in
    ap (line_taken line.entry) is ∙ taken_line line.entry all again ∙ (λ i. record { entry = line.entry; trains = again i })

-- the plant of the input has these names
pub has_for : (checker : Checker) (input : RunInput) → checker.ledger.input ≡ input → (names : Names) → HasNames checker.ledger.input.plant names → HasNames input.plant names
has_for checker input same names has = subst (λ (i : RunInput). HasNames i.plant names) same has

-- the names of an accepted input are names
named_in : (input : RunInput) → is_accepted_input (input_in input) ≡ true → IsNamed input.plant
named_in input accepted = accepted_named input.plant (input_parts (input_in input) accepted).0

-- what is refused behind lines that were read is refused
pub refused_in : (input : RunInput) → is_accepted_input (input_in input) ≡ true → (names : Names) → HasNames input.plant names → (bytes : List ℕ) (lines : List Line) (file : FileLines)
    → IsReadTo input.plant bytes lines file → (fault : Fault) → IsRefusedBehind names file fault → IsRefusedIn input.plant bytes fault
refused_in input accepted names has bytes lines file read (Refused refusal) refused = (refused.0, refused.1 input.plant has (named_in input accepted) bytes lines read)
refused_in input accepted names has bytes lines file read OutOfMemory refused = tt

-- what is said of no answer, and of an answer
pub with_none : (P : Type 0) (answer : Option Verdict) → answer ≡ None → IfNone answer P → P
with_none P answer is said = subst (λ (o : Option Verdict). IfNone o P) is said

pub with_some : (P : Verdict → Type 0) (answer : Option Verdict) (one : Verdict) → answer ≡ Some one → IfSome answer P → P one
with_some P answer one is said = subst (λ (o : Option Verdict). IfSome o P) is said

module _ (old : Checker) (before : FileLines) (middle : Checker) (file : FileLines) (keeps : KeepsUp old before middle file)
    (names : Names) (has : HasNames middle.ledger.input.plant names) where
  -- what is left of the file refuses it
  pub refused_at : (fault : Fault) → IsRefusedBehind names file fault → Refuses old before fault
  refused_at fault refused input bytes so_far =
      let now = keeps input bytes so_far in
      let accepted = subst (λ (i : RunInput). is_accepted_input (input_in i) ≡ true) now.checked.input_is now.checked.at.accepted in
      refused_in input accepted names (has_for middle input now.checked.input_is names has) bytes now.lines file now.read fault refused

  module _ (left : FileLines) (line : ReadLine) (trains : List ℕ) (beside : trains ≡ brought line.entry.what (trains_read line))
      (read : (plant : Plant) → HasNames plant names → GoesOn plant file left (line_read line)) where
    -- a line that decides
    pub decided_at : (answer : Option Verdict) → IfSome answer (IsDecidedAt middle (line_taken line.entry trains)) → IfSome answer (Decides old before left)
    decided_at None decided = tt
    decided_at (Some answer) decided = λ input bytes so_far.
        let now = keeps input bytes so_far in
        let said : Line = line_read line in
        let same = read_taken line trains beside in
        record {
          lines = now.lines ++ said ∷ [];
          read = read input.plant (has_for middle input now.checked.input_is names has) bytes now.lines now.read;
          same = λ rest.
              decided input now.lines rest now.checked
              ∙ ap (λ (l : Line). verdict (input_in input) (now.lines ++ l ∷ rest)) same
              ∙ ap (verdict (input_in input)) (sym (append_assoc now.lines (said ∷ []) rest));
        }

  -- a line that may follow
  pub kept_up : (new : Checker) (left : FileLines) (line : ReadLine) (trains : List ℕ) → trains ≡ brought line.entry.what (trains_read line)
      → ((plant : Plant) → HasNames plant names → GoesOn plant file left (line_read line))
      → (answer : Option Verdict) → (IsNone answer → ChecksLine middle new (line_taken line.entry trains)) → IfNone answer (KeepsUp old before new left)
  kept_up new left line trains beside read None checks = λ input bytes so_far.
      let now = keeps input bytes so_far in
      let said : Line = line_read line in
      record {
        lines = now.lines ++ said ∷ [];
        read = read input.plant (has_for middle input now.checked.input_is names has) bytes now.lines now.read;
        checked = subst (λ (l : Line). IsChecked input (now.lines ++ l ∷ []) new) (read_taken line trains beside) (checks refl input now.lines now.checked);
      }
  kept_up new left line trains beside read (Some answer) checks = tt
