-- How far a history was checked.
use Rattle.std.proofs.Common.{◌≡◌, ℕ, suc, ◌+◌, true, List, [], ◌∷◌, ◌++◌, sym, ap, ◌∙◌, arith, append_assoc, length-append}
use Rattle.std.proofs.lemmas.Bool.{and_parts, cond-false, cond-true}
use Rattle.std.proofs.lemmas.List.{append-nil}
use Rattle.rail_rules.specs.Fronts.{Line, has_ended, is_hold}
use Rattle.rail_rules.specs.Lawful.{is_lawful, may_follow}
use Rattle.rail_laws_verdict.specs.Verdicts.{broken_law, missing_law, verdict, verdict_behind}
use Rattle.rail_laws_verdict.specs.Verdicts.Verdict.{yes, no}
use Rattle.rail_ledger.specs.declared.input.RunInput.{RunInput}
use Rattle.rail_ledger.specs.Inputs.{input_in}
use Rattle.rail_ledger.specs.Ledgers.{IsAt, IsEnded, IsUnended, TakesLineWith}
use Rattle.rail_check.specs.Checkers.{IsChecked}
use Rattle.rail_check.specs.declared.checker.Checker.{Checker}

module _ (input : RunInput) (lines : List Line) (checker : Checker) (so_far : IsChecked input lines checker) where
  -- behind a line that may follow it is so again
  pub taken : (line : Line) (new : Checker) → new.ledger.input ≡ checker.ledger.input → TakesLineWith checker.after_hold checker.ledger new.ledger line
      → new.after_hold ≡ is_hold line.entry.what → new.lines ≡ checker.lines + 1 → IsChecked input (lines ++ line ∷ []) new
  taken line new input_new takes now_is more =
      let front = so_far.front in
      let at : IsAt (line ∷ front) new.ledger = takes front (so_far.at, so_far.after_hold_is) in
      let next : new.lines ≡ suc checker.lines = omega (arith, more) in
      let lawful : is_lawful (input_in input) (line ∷ front) ≡ true =
      ap (λ (i : RunInput). is_lawful (input_in i) (line ∷ front)) (sym (input_new ∙ so_far.input_is)) ∙ at.rep.lawful in
      let may = (and_parts (is_lawful (input_in input) front) (may_follow (input_in input) front line) lawful).1 in
      record {
        front = line ∷ front;
        at = at;
        input_is = input_new ∙ so_far.input_is;
        after_hold_is = now_is;
        counted = omega (arith, more, so_far.counted, length-append lines (line ∷ []));
        same = λ rest.
            ap (λ (n : ℕ). verdict_behind (input_in input) (line ∷ front) (suc n) rest) next
            ∙ sym (cond-true (may_follow (input_in input) front line) (verdict_behind (input_in input) (line ∷ front) (suc (suc checker.lines)) rest) (no (suc checker.lines) (broken_law (input_in input) front line)) may)
            ∙ so_far.same (line ∷ rest)
            ∙ ap (verdict (input_in input)) (sym (append_assoc lines (line ∷ []) rest));
      }

  -- behind the end line nothing is missing
  pub whole : IsEnded checker.ledger → yes ≡ verdict (input_in input) lines
  whole ended =
      let front = so_far.front in
      sym (cond-true (has_ended front) yes (no (suc checker.lines) (missing_law (input_in input) front)) (ended front so_far.at))
      ∙ so_far.same [] ∙ ap (verdict (input_in input)) (append-nil lines)

  -- where the end line is missing, the law is that of its absence
  pub missing : (law : ℕ) → IsUnended checker.ledger law → no (suc checker.lines) law ≡ verdict (input_in input) lines
  missing law unended =
      let front = so_far.front in
      let is = unended front so_far.at in
      ap (no (suc checker.lines)) (is.1 ∙ ap (λ (i : RunInput). missing_law (input_in i) front) so_far.input_is)
      ∙ sym (cond-false (has_ended front) yes (no (suc checker.lines) (missing_law (input_in input) front)) is.0)
      ∙ so_far.same [] ∙ ap (verdict (input_in input)) (append-nil lines)
