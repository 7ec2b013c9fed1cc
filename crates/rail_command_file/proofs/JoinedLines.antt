-- A line joins the lines behind it.
use Rattle.std.proofs.Common.{◌≡◌, ℕ, suc, ◌+◌, ◌≤◌, true, List, [], ◌∷◌, ◌++◌, length, Option, Some, None, sym, ap, ◌∙◌, arith, append_assoc, length-append, append-nil}
use Rattle.std.specs.List.{cons_option}
use Rattle.std.specs.Option.{option_or}
use Rattle.std.proofs.lemmas.List.Elements.{filter_map-append}
use Rattle.std.proofs.lemmas.List.Sums.{fold-append}
use Rattle.rail_base.specs.FirstRefusals.{first_failing}
use Rattle.rail_base.specs.Refusals.{AnswersFirst}
use Rattle.rail_base.specs.declared.names.Names.{Names}
use Rattle.rail_base.specs.declared.orders.Command.{Command}
use Rattle.rail_base.specs.declared.refusals.Fault.{Fault}
use Rattle.rail_base.specs.declared.refusals.Fault.TheVariants.{Refused, OutOfMemory}
use Rattle.rail_base.specs.declared.refusals.Refusal.{Refusal}
use Rattle.rail_base.specs.Limits.{most, Commands}
use Rattle.rail_rules.specs.Accepted.{are_commands_in_range}
use Rattle.rail_rules.specs.Plant.{Plant, trains}
use Rattle.rail_text.specs.Lines.{Line, lines_of}
use Rattle.rail_command_file.specs.Commands.{command_on, commands_in, commands_on, commands_refusal, last_time, line_tests, lines_tests, time_on}
use Rattle.rail_command_file.specs.LineAnswers.{IsRefusedLine, LinePasses, lines_behind, with_line}
use Rattle.rail_command_file.proofs.PassedLines.{IsPassed, command_of, commands_few, commands_in_range, its_command, its_time, line_passed, lines_apart}

-- how far a file was read: the commands of the lines before a place in it, and the lines that are left
pub record AreReadTo (names : Names) (bytes : List ℕ) (commands : List Command) (left : List Line) : Type 0 where
  pub read : commands_in names.sections.keys names.trains.keys bytes ≡ commands ++ commands_on names.sections.keys names.trains.keys left
  pub refusals : commands_refusal names.sections.keys names.trains.keys bytes ≡ first_failing (lines_behind names commands left)

-- behind a line that passes its tests, the refusal is that of the lines behind it
module _ (names : Names) (before : List Command) (line : Line) (rest : List Line) where
  behind_passed : IsPassed names.sections.keys names.trains.keys (length before) (last_time before) line →
      first_failing (lines_tests names.sections.keys names.trains.keys (suc (length before)) (time_on line) rest) ≡ first_failing (lines_behind names (with_line names before line) rest)
  behind_passed p =
      let one : commands_on names.sections.keys names.trains.keys (line ∷ []) ≡ command_of p ∷ [] = ap (λ (o : Option Command). cons_option o []) (its_command p) in
      let count : suc (length before) ≡ length (before ++ command_of p ∷ []) = omega (arith, length-append before (command_of p ∷ [])) in
      let time : time_on line ≡ last_time (before ++ command_of p ∷ []) = its_time p ∙ sym (fold-append (λ _ (command : Command). command.at) 0 before (command_of p ∷ [])) in
      (λ i. first_failing (lines_tests names.sections.keys names.trains.keys (count i) (time i) rest)) ∙ ap (λ (cs : List Command). first_failing (lines_behind names (before ++ cs) rest)) (sym one)

  abbrev others : Option Refusal
  others = first_failing (lines_tests names.sections.keys names.trains.keys (suc (length before)) (time_on line) rest)

  behind_line : LinePasses names before line → first_failing (lines_behind names before (line ∷ rest)) ≡ first_failing (lines_behind names (with_line names before line) rest)
  behind_line ok =
      lines_apart names.sections.keys names.trains.keys (length before) (last_time before) line rest
      ∙ ap (λ o. option_or o others) ok
      ∙ behind_passed (line_passed names.sections.keys names.trains.keys (length before) (last_time before) line ok)

  -- the refusal of a line is that of the lines from it on
  line_answers : (fault : Fault) → IsRefusedLine names before line fault → AnswersFirst (first_failing (lines_behind names before (line ∷ rest))) fault
  line_answers (Refused r) bad =
      lines_apart names.sections.keys names.trains.keys (length before) (last_time before) line rest
      ∙ ap (λ o. option_or o others) bad
  line_answers OutOfMemory bad = tt

module _ (names : Names) (bytes : List ℕ) (before : List Command) where
  module _ (left : List Line) (h : AreReadTo names bytes before left) where
    module _ (line : Line) (rest : List Line) (is : left ≡ line ∷ rest) where
      -- a line that passes its tests
      pub one_more : (after : List Command) → LinePasses names before line → after ≡ with_line names before line → AreReadTo names bytes after rest
      one_more after ok pushed =
          let one : List Command = commands_on names.sections.keys names.trains.keys (line ∷ []) in
          let more : List Command = commands_on names.sections.keys names.trains.keys rest in
          record {
            read = h.read
                ∙ ap (λ (ls : List Line). before ++ commands_on names.sections.keys names.trains.keys ls) is
                ∙ ap (λ (cs : List Command). before ++ cs) (filter_map-append (command_on names.sections.keys names.trains.keys) (line ∷ []) rest)
                ∙ sym (append_assoc before one more)
                ∙ ap (λ (cs : List Command). cs ++ more) (sym pushed);
            refusals = h.refusals
                ∙ ap (λ (ls : List Line). first_failing (lines_behind names before ls)) is
                ∙ behind_line names before line rest ok
                ∙ ap (λ (cs : List Command). first_failing (lines_behind names cs rest)) (sym pushed);
          }

      -- what answers a line answers the file
      pub answers_file : (fault : Fault) → IsRefusedLine names before line fault → AnswersFirst (commands_refusal names.sections.keys names.trains.keys bytes) fault
      answers_file fault bad = rw (h.refusals ∙ ap (λ (ls : List Line). first_failing (lines_behind names before ls)) is) (line_answers names before line rest fault bad)

    -- behind the last line
    pub at_end : left ≡ [] → AreReadTo names bytes before []
    at_end none = record {
      read = h.read ∙ ap (λ (ls : List Line). before ++ commands_on names.sections.keys names.trains.keys ls) none;
      refusals = h.refusals ∙ ap (λ (ls : List Line). first_failing (lines_behind names before ls)) none;
    }

-- the commands of a file that is accepted
module _ (names : Names) (bytes : List ℕ) (commands : List Command) (h : AreReadTo names bytes commands []) where
  pub all_commands : commands_in names.sections.keys names.trains.keys bytes ≡ commands
  all_commands = h.read ∙ append-nil commands

  pub few_commands : length commands ≤ most Commands
  few_commands =
      let few = commands_few names.sections.keys names.trains.keys 0 0 (lines_of bytes) (omega arith) h.refusals in
      omega (arith, few, ap (length {A = Command}) all_commands)

  pub fine_commands : (plant : Plant) → length plant.tables.sections ≡ length names.sections.keys → trains plant ≡ length names.trains.keys → are_commands_in_range plant 0 commands ≡ true
  fine_commands plant sections trains_same =
      ap (are_commands_in_range plant 0) (sym all_commands) ∙ commands_in_range plant names.sections.keys names.trains.keys sections trains_same 0 0 (lines_of bytes) h.refusals
