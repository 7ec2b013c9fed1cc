-- What a run prints is answered yes.
use Rattle.std.proofs.Common.{◌≡◌, List, [], ◌∷◌, ◌++◌, true, refl, sym, ap, ◌∙◌, append_assoc}
use Rattle.std.specs.Prelude.{reverse}
use Rattle.std.proofs.lemmas.Bool.{and_from, and_parts}
use Rattle.std.proofs.lemmas.List.{append-nil, reverse-append, reverse-reverse}
use Rattle.rail_history.specs.HistoryLines.{IsHistory}
use Rattle.rail_history.proofs.CallerLemmas.{lawful_lines}
use Rattle.rail_laws_verdict.specs.Verdicts.{behind, verdict}
use Rattle.rail_laws_verdict.specs.Verdicts.Verdict.{yes}
use Rattle.rail_laws_verdict.proofs.CallerLemmas.{yes_means}
use Rattle.rail_laws_step.proofs.CallerLemmas.{run_lawful}
use Rattle.rail_rules.specs.Accepted.{is_accepted_input}
use Rattle.rail_rules.specs.Fronts.{Front, Line, has_ended}
use Rattle.rail_rules.specs.Lawful.{is_complete, is_lawful}
use Rattle.rail_rules.specs.Orders.{Input}
use Rattle.rail_rules.specs.RunHistories.{Seat, is_run, is_run_history}
use Rattle.rail_rules.specs.Texts.{text}

-- the front of these lines, the oldest first, behind a front
pub behind_is : (front : Front) (lines : List Line) → behind front lines ≡ reverse lines ++ front
behind_is front [] = refl
behind_is front (line ∷ lines) =
    behind_is (line ∷ front) lines ∙ sym (append_assoc (reverse lines) (line ∷ []) front) ∙ ap (λ (ls : List Line). ls ++ front) (sym (reverse-append (line ∷ []) lines))

-- the text of a lawful front is that of a history file
pub in_file : (input : Input) → is_accepted_input input ≡ true → (front : Front) → is_lawful input front ≡ true → IsHistory input.plant (text input.plant front) (reverse front)
in_file input accepted front lawful =
    record { are_lines = lawful_lines input accepted front lawful; whole = ap (text input.plant) (sym (reverse-reverse front)) }

pub printed : (input : Input) → is_accepted_input input ≡ true → (seats : List Seat) (front : Front) → is_run_history input seats front ≡ true
    → IsHistory input.plant (text input.plant front) (reverse front) × (verdict input (reverse front) ≡ yes)
printed input accepted seats front history =
    let both = and_parts (is_run input seats front) (has_ended front) history in
    let complete : is_complete input front ≡ true = and_from (is_lawful input front) (has_ended front) (run_lawful input seats front both.0) both.1 in
    let back : behind [] (reverse front) ≡ front = behind_is [] (reverse front) ∙ append-nil (reverse (reverse front)) ∙ reverse-reverse front in (
      in_file input accepted front (run_lawful input seats front both.0),
      (yes_means input (reverse front)).1 (ap (is_complete input) back ∙ complete),
    )
