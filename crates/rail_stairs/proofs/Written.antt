-- Texts that are written one after another.
use Rattle.std.proofs.Common.{◌≡◌, ℕ, suc, ◌+◌, ◌<◌, List, [], ◌∷◌, ◌++◌, Result, Ok, Err, IsErr, OnOk, add-one, sym, ap, ◌∙◌, subst}
use Rattle.std.specs.Prelude.{flat_map}
use Rattle.std.proofs.lemmas.List.{append-nil}
use Rattle.std.proofs.lemmas.Bool.{false≢true}
use Rattle.rail_io.specs.declared.sink.Sink.{Ghosts}
use Rattle.rail_io.specs.declared.sink.Failed.{Failed}
use Rattle.rail_rules.specs.Numbers.{gather}
use Rattle.rail_text.specs.Writes.{WritesText}
use Rattle.rail_text.proofs.CallerLemmas.{both_written, part_written}
use Rattle.rail_stairs.proofs.Gathered.{gather_split}

-- what holds where a call succeeded holds where it did not
pub not_ok : (X : Type 0) (result : Result (Unit {0}) Failed) → IsErr result → OnOk result X
not_ok X (Ok done) is = absurd (false≢true is)
not_ok X (Err failed) is = tt

-- and what holds at all
pub is_ok : (X : Type 0) (result : Result (Unit {0}) Failed) → X → OnOk result X
is_ok X (Ok done) h = h
is_ok X (Err failed) h = tt

-- the same text was written
pub same_text : {O : Type 0} (sink : Ghosts O) (before now : O) {result : Result (Unit {0}) Failed} {t u : List ℕ} → t ≡ u
    → WritesText sink before now t result → WritesText sink before now u result
same_text sink before now {result} same h = subst (λ (xs : List ℕ). WritesText sink before now xs result) same h

-- the text of one thing is the text of the list of it
pub one_written : {O X : Type 0} (sink : Ghosts O) (line : X → List ℕ) (before now : O) (x y : X) (result : Result (Unit {0}) Failed) → y ≡ x
    → WritesText sink before now (line y) result → WritesText sink before now (flat_map line (x ∷ [])) result
one_written sink line before now x y result is h =
    subst (λ (t : List ℕ). WritesText sink before now t result) (ap line is ∙ sym (append-nil (line x))) h

-- the texts of gathered lists, where the text of two lists is that of both
module _ {O X : Type 0} (sink : Ghosts O) (text : List X → List ℕ) (joins : (xs ys : List X) → text (xs ++ ys) ≡ text xs ++ text ys) (f : ℕ → List X) where
  -- one more was written
  pub one_more_written : (before between now : O) (i : ℕ) (result : Result (Unit {0}) Failed)
      → WritesText sink before between (text (gather f i)) (Ok tt) → WritesText sink between now (text (f i)) result
      → WritesText sink before now (text (gather f (i + 1))) result
  one_more_written before between now i result one other =
      subst (λ (t : List ℕ). WritesText sink before now t result) (sym (ap (λ n. text (gather f n)) (add-one i) ∙ joins (gather f i) (f i)))
      (both_written sink before between now (text (gather f i)) (text (f i)) result one other)

  -- one more was not written to its end
  pub stopped_written : (before between now : O) (n i : ℕ) (failed : Failed) (result : Result (Unit {0}) Failed) → i < n → IsErr result
      → WritesText sink before between (text (gather f i)) (Ok tt) → WritesText sink between now (text (f i)) (Err failed)
      → WritesText sink before now (text (gather f n)) result
  stopped_written before between now n i failed result lt is one other =
      let split = gather_split f n i lt in
      subst (λ (t : List ℕ). WritesText sink before now t result) (sym (ap text split.1 ∙ joins (gather f (suc i)) split.0))
      (part_written sink before now (text (gather f (suc i))) (text split.0) failed result is
      (subst (λ (n : ℕ). WritesText sink before now (text (gather f n)) (Err failed)) (add-one i) (one_more_written before between now i (Err failed) one other)))
