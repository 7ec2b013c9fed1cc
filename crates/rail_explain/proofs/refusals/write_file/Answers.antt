use Rattle.std.proofs.Common.{◌++◌, ◌∷◌, [], ℕ, List, sym, subst}
use Rattle.std.specs.Option.{option_copied}
use Rattle.rail_text.specs.Writes.{WritesText}
use Rattle.rail_text.proofs.CallerLemmas.{both_written, part_written}
use Rattle.rail_explain.specs.Explanations.{file_text}
use Rattle.rail_explain.specs.Terminals.{shown_text}
use Rattle.rail_explain.proofs.refusals.write_file.Goals as goal

pub returns-in_err-write_shown : goal.returns-in_err-write_shown
returns-in_err-write_shown g c =
    subst (λ file. WritesText g.O.Sink c.args.out.now c.write_shown.new.out (file_text (option_copied file)) c.from_residual.result) (sym c.in-Some.is)
    (subst (λ (bytes : List ℕ). WritesText g.O.Sink c.args.out.now c.write_shown.new.out (shown_text bytes ++ 58 ∷ 32 ∷ []) c.from_residual.result) c.as_bytes.ensures.value
    (part_written g.O.Sink _ _ _ (58 ∷ 32 ∷ []) _ c.from_residual.result c.from_residual.ensures.0 c.in_err-write_shown.ensures))

pub returns : goal.returns
returns g c =
    let f = c.write_whole.ensures in
    subst (λ file. WritesText g.O.Sink c.args.out.now c.write_whole.new.sink (file_text (option_copied file)) c.write_whole.result) (sym c.in-Some.is)
    (subst (λ (bytes : List ℕ). WritesText g.O.Sink c.args.out.now c.write_whole.new.sink (shown_text bytes ++ 58 ∷ 32 ∷ []) c.write_whole.result) c.as_bytes.ensures.value
    (both_written g.O.Sink c.args.out.now c.write_shown.new.out c.write_whole.new.sink (shown_text c.as_bytes.result.now) (58 ∷ 32 ∷ []) c.write_whole.result
    c.in_ok-write_shown.ensures
    (record { adds = f.adds; failed_adds_prefix = f.failed_adds_prefix; failed_rose = f.failed_rose; faults_never_fall = f.faults_never_fall })))
