-- Texts that are written one after another.
use Rattle.std.proofs.Common.{◌≡◌, ℕ, zero, suc, ◌+◌, ◌<◌, List, [], ◌++◌, Result, Ok, Err, IsErr, sym, ap, ◌∙◌, subst, ⊎_elim, append_assoc, arith}
use Rattle.std.proofs.lemmas.List.{append-nil}
use Rattle.rail_rules.specs.Numbers.{gather}
use Rattle.std.proofs.lemmas.Bool.{cases_lt}
use Rattle.rail_io.specs.declared.sink.Sink.{Ghosts}
use Rattle.rail_io.specs.declared.sink.Failed.{Failed}
use Rattle.rail_text.specs.Writes.{WritesText}
use Rattle.rail_text.proofs.CallerLemmas.{both_written, part_written}

-- the texts of the numbers up to one, and others, are the texts of all
gather_whole : (f : ℕ → List ℕ) (n i : ℕ) → i < n → (rest : List ℕ) × (gather f n ≡ (gather f i ++ f i) ++ rest)
gather_whole f zero i lt = absurd (omega (arith, lt))
gather_whole f (suc n) i lt = ⊎_elim
    (λ below.
    let first = gather_whole f n i below in
    (first.0 ++ f n, ap (λ (text : List ℕ). text ++ f n) first.1 ∙ append_assoc (gather f i ++ f i) first.0 (f n)))
    (λ last.
    let same : n ≡ i = omega (arith, lt, last) in
    ([], ap (λ (k : ℕ). gather f k ++ f k) same ∙ sym (append-nil (gather f i ++ f i))))
    (cases_lt i n)

-- the text of one more number was written
pub next_written : {O : Type 0} (sink : Ghosts O) (before between now : O) (f : ℕ → List ℕ) (i : ℕ)
    → WritesText sink before between (gather f i) (Ok tt) → WritesText sink between now (f i) (Ok tt) → WritesText sink before now (gather f (i + 1)) (Ok tt)
next_written sink before between now f i one other =
    let next : suc i ≡ i + 1 = omega arith in
    let more : gather f i ++ f i ≡ gather f (i + 1) = ap (gather f) next in
    subst (λ (text : List ℕ). WritesText sink before now text (Ok tt)) more (both_written sink before between now (gather f i) (f i) (Ok tt) one other)

-- where the text of a number was not written to its end, a first part of all was
pub failed_at : {O : Type 0} (sink : Ghosts O) (before between now : O) (f : ℕ → List ℕ) (n i : ℕ) (failed : Failed) (result : Result (Unit {0}) Failed) → IsErr result → i < n
    → WritesText sink before between (gather f i) (Ok tt) → WritesText sink between now (f i) (Err failed) → WritesText sink before now (gather f n) result
failed_at sink before between now f n i failed result is lt one other =
    let whole = gather_whole f n i lt in
    subst (λ (text : List ℕ). WritesText sink before now text result) (sym whole.1)
    (part_written sink before now (gather f i ++ f i) whole.0 failed result is (both_written sink before between now (gather f i) (f i) (Err failed) one other))
