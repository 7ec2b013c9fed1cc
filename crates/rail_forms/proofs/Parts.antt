-- No refusal of what files hold is one of a file for its size.
use Rattle.std.proofs.Common.{◌≡◌, ℕ, Bool, true, false, not, List, [], ◌∷◌, ◌++◌, ap, refl}
use Rattle.std.specs.List.{flat_map}
use Rattle.rail_base.specs.Refusals.{AnswersFirst}
use Rattle.rail_base.specs.declared.refusals.Fault.{Fault}
use Rattle.rail_base.specs.declared.refusals.Fault.TheVariants as fault
use Rattle.rail_base.proofs.CallerLemmas.{AreOfBytes, first_of_bytes, of_both}
use Rattle.rail_rules.specs.Moves.{Moves}
use Rattle.rail_text.specs.Lines.{Line, lines_of}
use Rattle.rail_input.specs.Inputs.{refuses_file}
use Rattle.rail_reroute.specs.Proposals.{line_tests as proposal_tests, proposals_refusal}
use Rattle.rail_command_line.specs.Lists.{line_tests, lines_tests, list_line_refusal, some_moves, words_tests}
use Rattle.rail_forms.specs.Answers.{status_of}
use Rattle.rail_forms.specs.Promises.{is_of_bytes}

-- a fault of reading a scene, or what belongs to it, that refuses no file
pub of_bytes_fault : (fault : Fault) → refuses_file fault ≡ false → is_of_bytes (status_of fault) ≡ true
of_bytes_fault (fault.Refused refusal) none = ap not none
of_bytes_fault fault.OutOfMemory none = refl

-- the tests of the lines of a list
of_words : (names : List (List ℕ)) (plan : Moves) (may_move has_moved : Bool) (n : ℕ) (words : List (List ℕ)) → AreOfBytes (words_tests names plan may_move has_moved n words)
of_words names plan may_move has_moved n [] = tt
of_words names plan may_move has_moved n (verb ∷ args) = (refl, (refl, (refl, tt)))

of_lines : (names : List (List ℕ)) (plan : Moves) (may_move : Bool) (before lines : List Line) → AreOfBytes (lines_tests names plan may_move before lines)
of_lines names plan may_move before [] = tt
of_lines names plan may_move before (line ∷ rest) = of_both (line_tests names plan may_move before line) (lines_tests names plan may_move (before ++ line ∷ []) rest)
    (of_words names plan may_move (some_moves before) line.number line.words) (of_lines names plan may_move (before ++ line ∷ []) rest)

-- a fault that answers the refusal of a line of a list
pub list_fault : (names : List (List ℕ)) (plan : Moves) (may_move : Bool) (bytes : List ℕ) (fault : Fault) → AnswersFirst (list_line_refusal names plan may_move bytes) fault → is_of_bytes (status_of fault) ≡ true
list_fault names plan may_move bytes fault.OutOfMemory answers = refl
list_fault names plan may_move bytes (fault.Refused refusal) answers = ap not (first_of_bytes (lines_tests names plan may_move [] (lines_of bytes)) refusal (of_lines names plan may_move [] (lines_of bytes)) answers)

-- the tests of the lines of proposals
of_proposals : (trains routes : List (List ℕ)) (lines : List Line) → AreOfBytes (flat_map (proposal_tests trains routes) lines)
of_proposals trains routes [] = tt
of_proposals trains routes (line ∷ rest) = of_both (proposal_tests trains routes line) (flat_map (proposal_tests trains routes) rest) (refl, (refl, tt)) (of_proposals trains routes rest)

-- a fault that answers the refusal of proposals
pub proposals_fault : (trains routes : List (List ℕ)) (bytes : List ℕ) (fault : Fault) → AnswersFirst (proposals_refusal trains routes bytes) fault → is_of_bytes (status_of fault) ≡ true
proposals_fault trains routes bytes fault.OutOfMemory answers = refl
proposals_fault trains routes bytes (fault.Refused refusal) answers = ap not (first_of_bytes (flat_map (proposal_tests trains routes) (lines_of bytes)) refusal (of_proposals trains routes (lines_of bytes)) answers)
