use Rattle.std.proofs.Common.{◌++◌, ◌∷◌, [], ℕ, List, subst}
use Rattle.rail_text.specs.Writes.{WritesText}
use Rattle.rail_text.proofs.CallerLemmas.{both_written, part_written}
use Rattle.rail_explain.proofs.refusals.write_end.Goals as goal

pub returns-in_err-write_whole : goal.returns-in_err-write_whole
returns-in_err-write_whole g c =
    let e = c.in_err-write_whole.ensures in
    subst (λ (bytes : List ℕ). WritesText g.O.Sink c.args.out.now c.write_whole.new.sink (bytes ++ 10 ∷ []) c.from_residual.result) c.as_slice.ensures
    (part_written g.O.Sink c.args.out.now c.write_whole.new.sink c.as_slice.result.now (10 ∷ []) _ c.from_residual.result c.from_residual.ensures.0
    (record { adds = e.adds; failed_adds_prefix = e.failed_adds_prefix; failed_rose = e.failed_rose; faults_never_fall = e.faults_never_fall }))

pub returns : goal.returns
returns g c =
    let e = c.in_ok-write_whole.ensures in
    let f = c.write_whole-2.ensures in
    subst (λ (bytes : List ℕ). WritesText g.O.Sink c.args.out.now c.write_whole-2.new.sink (bytes ++ 10 ∷ []) c.write_whole-2.result) c.as_slice.ensures
    (both_written g.O.Sink c.args.out.now c.write_whole.new.sink c.write_whole-2.new.sink c.as_slice.result.now (10 ∷ []) c.write_whole-2.result
    (record { adds = e.adds; failed_adds_prefix = tt; failed_rose = tt; faults_never_fall = e.faults_never_fall })
    (record { adds = f.adds; failed_adds_prefix = f.failed_adds_prefix; failed_rose = f.failed_rose; faults_never_fall = f.faults_never_fall }))
