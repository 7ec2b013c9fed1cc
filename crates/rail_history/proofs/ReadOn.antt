-- A file of which the lines are read one by one.
use Rattle.std.proofs.Common.{◌≡◌, ℕ, ◌+◌, ◌<◌, ◌≤◌, Bool, true, false, cond, List, [], ◌∷◌, ◌++◌, length, refl, sym, ap, ◌∙◌, arith, length-append}
use mir.Val.{bool_byte}
use Rattle.std.specs.List.{list_any}
use Rattle.rail_base.specs.declared.names.Names.{Names}
use Rattle.rail_base.specs.declared.refusals.Fault.{Fault}
use Rattle.rail_base.specs.declared.refusals.Fault.TheVariants.{Refused, OutOfMemory}
use Rattle.rail_base.specs.declared.refusals.Reason.TheVariants.{HistoryForm}
use Rattle.rail_base.specs.declared.refusals.Refusal.{Refusal}
use Rattle.rail_base.specs.Limits.{most, FreshLines}
use Rattle.rail_rules.specs.Plant.{Plant}
use Rattle.rail_rules.specs.Fronts.{Line}
use Rattle.rail_text.specs.Lines.{refusal_at}
use Rattle.rail_text.specs.Names.{HasNames}
use Rattle.rail_history.specs.declared.file_lines.FileLines.{FileLines}
use Rattle.rail_history.specs.HistoryLines.{IsRefusedFor, IsSpelled, is_fresh}
use Rattle.rail_history.specs.LineReads.{IsWrongLine}
use Rattle.rail_history.specs.ReadFiles.{IsReadTo, IsRefusedBehind}
use Rattle.rail_history.proofs.LineFeeds.{is_feed}
use Rattle.rail_history.proofs.Histories.{count_push, first_wrong, front_next}

-- a test as a number
pub one_of : (b : Bool) → bool_byte b ≡ cond b 1 0
one_of true = refl
one_of false = refl

-- one line more was read
pub read_one : (plant : Plant) (bytes : List ℕ) (lines : List Line) (line : Line) (old new : FileLines) (piece : List ℕ) → IsReadTo plant bytes lines old → IsSpelled plant line piece
    → old.text.now ≡ piece ++ new.text.now → new.number ≡ old.number + 1 → new.fresh ≡ old.fresh + cond (is_fresh line.entry.what) 1 0
    → new.fresh ≤ most FreshLines → length new.text.now < length old.text.now → IsReadTo plant bytes (lines ++ line ∷ []) new
read_one plant bytes lines line old new piece so_far is split number fresh few less = record {
  front = front_next plant bytes lines line old.text.now piece new.text.now so_far.front is split;
  counted = omega (arith, fresh, so_far.counted, count_push Line (λ (l : Line). is_fresh l.entry.what) lines line);
  few = few;
  numbered = omega (arith, number, so_far.numbered, length-append lines (line ∷ []));
  short = omega (arith, number, so_far.short, less);
}

-- a line that is none refuses the file
pub refused_behind : (names : Names) (file : FileLines) (piece : List ℕ) (number : ℕ) → number ≡ file.number + 1 → (file.text.now ≡ [] → ⊥)
    → ((body more : List ℕ) → list_any is_feed body ≡ false → file.text.now ≡ body ++ 10 ∷ more → piece ≡ body ++ 10 ∷ [])
    → (fault : Fault) → IsWrongLine names file.fresh number piece fault → IsRefusedBehind names file fault
refused_behind names file piece number next some cuts (Refused refusal) wrong =
    let item : number ≡ refusal.item = sym (ap (λ (r : Refusal). r.item) wrong.0) in (
      wrong.0 ∙ ap (refusal_at HistoryForm) item,
      λ plant has named bytes lines so_far.
          first_wrong plant named bytes lines file.text.now piece file.fresh refusal.item so_far.front so_far.counted so_far.few
          (omega (arith, item, next, so_far.numbered)) some cuts (wrong.1 plant has named),
    )
refused_behind names file piece number next some cuts OutOfMemory wrong = tt

-- the refusal behind lines that were read is that of the bytes
pub refused_from : (names : Names) (bytes : List ℕ) (lines : List Line) (file : FileLines) → ((plant : Plant) → HasNames plant names → IsReadTo plant bytes lines file)
    → (fault : Fault) → IsRefusedBehind names file fault → IsRefusedFor names bytes fault
refused_from names bytes lines file so_far (Refused refusal) refused = (refused.0, λ plant has named. refused.1 plant has named bytes lines (so_far plant has))
refused_from names bytes lines file so_far OutOfMemory refused = tt

-- and it is that behind fewer lines
pub refused_before : (names : Names) (old now : FileLines)
    → ((plant : Plant) → HasNames plant names → (bytes : List ℕ) (lines : List Line) → IsReadTo plant bytes lines old → (more : List Line) × IsReadTo plant bytes (lines ++ more) now)
    → (fault : Fault) → IsRefusedBehind names now fault → IsRefusedBehind names old fault
refused_before names old now on (Refused refusal) refused = (
  refused.0,
  λ plant has named bytes lines so_far.
      let next = on plant has bytes lines so_far in
      refused.1 plant has named bytes (lines ++ next.0) next.1,
)
refused_before names old now on OutOfMemory refused = tt
