-- What is answered to the words of a capacity study.
use Rattle.std.proofs.Common.{◌≡◌, ℕ, true, false, cond, eqb, nat_le, List, length, Option, Some, None, sym, ap, ◌∙◌}
use Rattle.std.proofs.lemmas.Option.{none-some, same_Some}
use Rattle.rail_base.specs.declared.refusals.Refusal.{Refusal}
use Rattle.rail_capacity.specs.declared.compression.Window.{Window}
use Rattle.rail_policy.specs.Seats.{DeskSeat}
use Rattle.rail_command_line.specs.Forms.{Scenario}
use Rattle.rail_forms.specs.declared.status.Status.{Status}
use Rattle.rail_forms.specs.declared.status.Status.TheVariants.{Refused}
use Rattle.rail_forms.specs.Answers.{Told}
use Rattle.rail_forms.specs.Capacity.{AnswersCapacity, AnswersStudy, line_empty, study_refusal, window_empty}

-- the study of a line in a window
module _ (line : List ℕ) (window : Window) (scenario : Scenario) (deck : List DeskSeat) (told : Told) (before now : Option (List ℕ)) (status : Status) where
  abbrev Answers : Type 0
  Answers = AnswersCapacity line window scenario deck told before now status

  -- is refused
  pub study_refused : (refusal : Refusal) → study_refusal line window ≡ Some refusal → status ≡ Refused refusal → Answers
  study_refused refusal is ends = record {
    of_words = λ why refused. ends ∙ ap Refused (same_Some refusal why (sym is ∙ refused));
    of_run = λ none. absurd (none-some refusal (sym none ∙ is));
  }

  -- or goes on to its scenario
  pub study_answered : study_refusal line window ≡ None → AnswersStudy line window scenario deck told before now status → Answers
  study_answered fine answer = record {
    of_words = λ why refused. absurd (none-some why (sym fine ∙ refused));
    of_run = λ none. answer;
  }

-- why it is refused, by its two tests
pub window_refused : (line : List ℕ) (window : Window) → eqb (length line) 0 ≡ false → nat_le window.to window.from ≡ true → study_refusal line window ≡ Some window_empty
window_refused line window filled empty =
    ap (λ b. cond b (Some line_empty) (cond (nat_le window.to window.from) (Some window_empty) None)) filled ∙ ap (λ b. cond b (Some window_empty) None) empty

pub none_refused : (line : List ℕ) (window : Window) → eqb (length line) 0 ≡ false → nat_le window.to window.from ≡ false → study_refusal line window ≡ None
none_refused line window filled open_window =
    ap (λ b. cond b (Some line_empty) (cond (nat_le window.to window.from) (Some window_empty) None)) filled ∙ ap (λ b. cond b (Some window_empty) None) open_window
