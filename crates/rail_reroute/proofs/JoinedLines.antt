-- A line of a file of proposals joins the lines before it and behind it.
use Rattle.std.proofs.Common.{◌≡◌, ℕ, List, [], ◌∷◌, ◌++◌, Option, None, sym, ap, ◌∙◌, append_assoc, append-nil}
use Rattle.std.specs.List.{flat_map}
use Rattle.std.specs.Option.{option_or}
use Rattle.rail_base.specs.FirstRefusals.{first_failing}
use Rattle.rail_base.specs.Refusals.{AnswersFirst}
use Rattle.rail_base.specs.declared.refusals.Fault.{Fault}
use Rattle.rail_base.specs.declared.refusals.Fault.TheVariants.{Refused, OutOfMemory}
use Rattle.rail_base.specs.declared.refusals.Refusal.{Refusal}
use Rattle.rail_base.proofs.CallerLemmas.{first_failing-append}
use Rattle.rail_text.specs.Lines.{Line}
use Rattle.rail_reroute.specs.declared.proposals.Proposal.{Proposal}
use Rattle.rail_reroute.specs.Proposals.{line_tests, lines_refusal, proposal_on, proposals_in, proposals_on, proposals_refusal}

-- how far a file was read: the proposals of the lines before a place in it, and the lines that are left
pub record AreReadTo (trains routes : List (List ℕ)) (bytes : List ℕ) (proposals : List Proposal) (left : List Line) : Type 0 where
  pub read : proposals_in trains bytes ≡ proposals ++ proposals_on trains left
  pub refusals : proposals_refusal trains routes bytes ≡ lines_refusal trains routes left

module _ (trains routes : List (List ℕ)) where
  -- the refusal of lines is that of the first one, or else that of the others
  pub apart : (line : Line) (rest : List Line) → lines_refusal trains routes (line ∷ rest) ≡ option_or (first_failing (line_tests trains routes line)) (lines_refusal trains routes rest)
  apart line rest = first_failing-append (line_tests trains routes line) (flat_map (line_tests trains routes) rest)

  module _ (bytes : List ℕ) (before : List Proposal) (left : List Line) (h : AreReadTo trains routes bytes before left) where
    module _ (line : Line) (rest : List Line) (is : left ≡ line ∷ rest) where
      -- a line that passes its tests
      pub one_more : (after : List Proposal) → first_failing (line_tests trains routes line) ≡ None → after ≡ before ++ proposal_on trains line ∷ [] → AreReadTo trains routes bytes after rest
      one_more after ok made = record {
        read = h.read
            ∙ ap (λ (ls : List Line). before ++ proposals_on trains ls) is
            ∙ sym (append_assoc before (proposal_on trains line ∷ []) (proposals_on trains rest))
            ∙ ap (λ (ps : List Proposal). ps ++ proposals_on trains rest) (sym made);
        refusals = h.refusals
            ∙ ap (lines_refusal trains routes) is
            ∙ apart line rest
            ∙ ap (λ (o : Option Refusal). option_or o (lines_refusal trains routes rest)) ok;
      }

      -- what answers a line answers the file
      pub answers_file : (fault : Fault) → AnswersFirst (first_failing (line_tests trains routes line)) fault → AnswersFirst (proposals_refusal trains routes bytes) fault
      answers_file (Refused r) bad = h.refusals
          ∙ ap (lines_refusal trains routes) is
          ∙ apart line rest
          ∙ ap (λ (o : Option Refusal). option_or o (lines_refusal trains routes rest)) bad
      answers_file OutOfMemory bad = tt

    -- behind the last line
    module _ (none : left ≡ []) where
      pub all_accepted : proposals_refusal trains routes bytes ≡ None
      all_accepted = h.refusals ∙ ap (lines_refusal trains routes) none

      pub all_read : before ≡ proposals_in trains bytes
      all_read = sym (h.read ∙ ap (λ (ls : List Line). before ++ proposals_on trains ls) none ∙ append-nil before)
