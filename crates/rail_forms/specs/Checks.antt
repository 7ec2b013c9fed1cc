-- The form `check`: the verdict on a history of a scene.
use Rattle.std.specs.Prelude.{◌≡◌, ℕ, IsTrue, List, [], ◌∷◌, ◌++◌, Option, Some, None, codes, decimal}
use Rattle.rail_base.specs.declared.refusals.Reason.TheVariants.{HistoryForm}
use Rattle.rail_base.specs.declared.refusals.Refusal.{Refusal}
use Rattle.rail_history.specs.HistoryLines.{IsFirstWrong, IsHistory}
use Rattle.rail_io.specs.Writes.{Adds, AddsPrefix}
use Rattle.rail_laws_verdict.specs.Verdicts.{IsBrokenAt, Verdict, behind as front_of, verdict}
use Rattle.rail_laws_verdict.specs.Verdicts.Verdict.{yes, no}
use Rattle.rail_rules.specs.Fronts.{Line}
use Rattle.rail_rules.specs.Lawful.{is_complete}
use Rattle.rail_rules.specs.Numbers.{or_else}
use Rattle.rail_rules.specs.Orders.{Input}
use Rattle.rail_rules.specs.Texts.{behind}
use Rattle.rail_text.specs.Lines.{refusal_at}
use Rattle.rail_forms.specs.declared.status.Status.{Status}
use Rattle.rail_forms.specs.declared.status.Status.TheVariants.{CheckedNo, Done}
use Rattle.rail_forms.specs.Answers.{Decides, IsAnswer, Told}
use Rattle.rail_command_line.specs.Forms.{Scenario, ScenarioAnd}
use Rattle.rail_command_line.specs.declared.files.FileRole.TheVariants as role
use Rattle.rail_input.specs.Inputs.{input_in}
use Rattle.rail_policy.specs.Seats.{DeskSeat, names_of}
use Rattle.rail_forms.specs.Files.{told_of}
use Rattle.rail_forms.specs.Pasts.{AnswersPast, past_refusal}
use Rattle.rail_forms.specs.Terms.{Terms, never}

-- the words for a verdict
abbrev pub verdict_words : Verdict → List ℕ
verdict_words yes = codes "yes"
verdict_words (no line law) = codes "no" ++ behind (decimal line ∷ decimal law ∷ [])

-- the line that is written for it
abbrev pub verdict_text : Verdict → List ℕ
verdict_text said = verdict_words said ++ 10 ∷ []

-- what a command ends with that has written the verdict
abbrev pub status_judged : Verdict → Status
status_judged yes = Done
status_judged (no line law) = CheckedNo line law

-- what a verdict says of the lines of a history: they are lawful to the end; or this line is the first that may not follow
-- those before it, or is the end line that is missing, and breaks this law
abbrev pub IsSaid : Input → List Line → Verdict → Type 0
IsSaid input lines yes = IsTrue (is_complete input (front_of [] lines))
IsSaid input lines (no line law) = IsBrokenAt input lines line law

-- the verdict on these lines was written, and the command ends with it
pub record IsJudged (input : Input) (lines : List Line) (before now : Option (List ℕ)) (status : Status) : Type 0 where
  pub ends : status ≡ status_judged (verdict input lines)
  pub adds : Adds before now (verdict_text (verdict input lines))
  pub said : IsSaid input lines (verdict input lines)

-- a command that ends with a verdict is done
abbrev pub done_with : Status → Status
done_with (CheckedNo line law) = Done
done_with status = status

-- what is answered to a history file, where so much is refused without it: where its bytes are the text of lines, the
-- verdict on them; where a line is the first that is none, its refusal
pub record AnswersHistory (first : Option Refusal) (input : Input) (text : List ℕ) (before now : Option (List ℕ)) (status : Status) : Type 0 where
  pub read : (lines : List Line) → IsHistory input.plant text lines
      → IsAnswer first (IsJudged input lines before now status) (AddsPrefix before now (verdict_text (verdict input lines))) (done_with status)
  pub wrong : (number : ℕ) → IsFirstWrong input.plant text number → IsAnswer (or_else first (Some (refusal_at HistoryForm number))) ⊥ ⊥ (done_with status)
  -- whatever the history is
  pub of_first : Decides first status

-- the verdict on the history in the file of this name for the scenario, with this deck
abbrev pub AnswersCheck : Scenario → List ℕ → List DeskSeat → Told → Option (List ℕ) → Option (List ℕ) → Status → Type 0
AnswersCheck scenario history deck told before now status = AnswersPast role.History
    (λ first input seats text. AnswersHistory first input text before now status) scenario history deck told status

-- the bytes of the files of a check are told, the history's are those of lines, and nothing is refused
pub record IsAcceptedCheck (scenario : Scenario) (history : List ℕ) (deck : List DeskSeat) (told : Told) : Type 0 where
  pub bytes : List ℕ
  pub calls : Option (List ℕ)
  pub orders : Option (List ℕ)
  pub text : List ℕ
  pub lines : List Line
  pub scene_told : told scenario.scene ≡ Some bytes
  pub calls_told : told_of told scenario.timetable ≡ Some calls
  pub orders_told : told_of told scenario.commands ≡ Some orders
  pub history_told : told history ≡ Some text
  pub fine : past_refusal role.History bytes calls orders text deck ≡ None
  pub spelled : IsHistory (input_in bytes calls orders (names_of deck)).plant text lines

-- the terms of `check`, which is done also where it ends with a verdict that is no
abbrev pub check_terms : Terms ScenarioAnd
check_terms = record {
  answers = λ files deck told before now status. AnswersCheck files.scenario files.other deck told before now status;
  accepted = λ files deck told. IsAcceptedCheck files.scenario files.other deck told;
  done = λ status. done_with status ≡ Done;
  alone = never;
}
