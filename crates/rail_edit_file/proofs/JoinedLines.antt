-- A line of an edit file, and the lines behind it.
use Rattle.std.proofs.Common.{◌≡◌, List, [], ◌∷◌, Option, None, sym, ap, ◌∙◌}
use Rattle.rail_base.specs.Refusals.{AnswersFirst}
use Rattle.rail_base.specs.declared.refusals.Fault.{Fault}
use Rattle.rail_base.specs.declared.refusals.Refusal.{Refusal}
use Rattle.rail_rules.specs.Numbers.{or_else}
use Rattle.rail_text.specs.Lines.{Line}
use Rattle.rail_edit.specs.Editing.{Editing}
use Rattle.rail_edit_file.specs.EditFiles.{after_line, after_lines, asked_at, lines_refusal}
use Rattle.rail_edit_file.specs.EditLines.{edit_line}
use Rattle.rail_edit_file.proofs.FileOrder.{first_answers}

-- how far the lines were read: the editor before the first of them, the editor now, and the lines that are left
pub record AreReadTo (lines : List Line) (before now : Editing) (left : List Line) : Type 0 where
  pub edited : after_lines lines before ≡ after_lines left now
  pub refusals : lines_refusal lines before ≡ lines_refusal left now

module _ (lines : List Line) (before now : Editing) (left : List Line) (h : AreReadTo lines before now left) where
  module _ (line : Line) (rest : List Line) (is : left ≡ line ∷ rest) where
    -- a line that is not refused
    pub one_more : (after : Editing) → asked_at line.number (edit_line line.words) now ≡ None → after ≡ after_line line now → AreReadTo lines before after rest
    one_more after ok made = record {
      edited = h.edited ∙ ap (λ (ls : List Line). after_lines ls now) is ∙ ap (after_lines rest) (sym made);
      refusals = h.refusals
          ∙ ap (λ (ls : List Line). lines_refusal ls now) is
          ∙ ap (λ (o : Option Refusal). or_else o (lines_refusal rest (after_line line now))) ok
          ∙ ap (lines_refusal rest) (sym made);
    }

    -- what answers a line answers the lines
    pub answers_lines : (fault : Fault) → AnswersFirst (asked_at line.number (edit_line line.words) now) fault → AnswersFirst (lines_refusal lines before) fault
    answers_lines fault answer =
        rw (h.refusals ∙ ap (λ (ls : List Line). lines_refusal ls now) is)
        (first_answers (asked_at line.number (edit_line line.words) now) (lines_refusal rest (after_line line now)) fault answer)
