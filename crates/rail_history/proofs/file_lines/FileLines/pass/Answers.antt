use Rattle.std.proofs.Common.{◌≡◌, ◌≢◌, ℕ, ◌+◌, ◌<◌, ◌++◌, List, [], ◌∷◌, Some, Bool, length, cond, ap, refl, arith, length-append}
use Rattle.std.proofs.lemmas.Slice.Eq.{strip_prefix_is}
use Rattle.std.proofs.lemmas.Bool.Decides.{Decides-eqb}
use Rattle.rail_history.specs.declared.file_lines.FileLines.{FileLines}
use Rattle.rail_history.proofs.ReadOn.{read_one}
use Rattle.rail_history.proofs.file_lines.FileLines.pass.Goals as goal

-- what stands behind some bytes is shorter
shorter : (text bytes rest : List ℕ) → text ≡ bytes ++ rest → bytes ≢ [] → length rest < length text
shorter text [] rest split some = absurd (some refl)
shorter text (b ∷ bytes) rest split some = omega (arith, ap (length {A = ℕ}) split, length-append (b ∷ bytes) rest)

pub returns-clause-passed : goal.returns-clause-passed
returns-clause-passed c = λ _ plant line is plain bytes lines so_far.
    let old : FileLines = c.args.self.now in
    let new : FileLines = record { text = c.in-Some.rest; number = old.number + 1; fresh = old.fresh } in
    let split : old.text.now ≡ c.args.bytes.now ++ new.text.now =
    strip_prefix_is Decides-eqb old.text.now c.args.bytes.now (Some c.in-Some.rest) c.in-Some.ensures.cases in
    let none : ℕ = 0 in
    let one : ℕ = 1 in
    let plainly = ap (λ (b : Bool). cond b one none) plain in
    read_one plant bytes lines line old new c.args.bytes.now so_far is split refl (omega (arith, plainly)) so_far.few
    (shorter old.text.now c.args.bytes.now new.text.now split c.requires.some)
