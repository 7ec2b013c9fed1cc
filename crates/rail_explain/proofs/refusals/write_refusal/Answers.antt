use Rattle.std.proofs.Common.{◌≡◌, ◌++◌, ◌∷◌, [], ℕ, List, ◌∙◌, subst}
use Rattle.std.specs.Option.{option_copied}
use Rattle.rail_text.specs.Writes.{WritesText}
use Rattle.rail_text.proofs.CallerLemmas.{both_written, part_written}
use Rattle.rail_explain.specs.Explanations.{explanation, file_text}
use Rattle.rail_explain.proofs.refusals.write_refusal.Goals as goal

pub returns-in_err-write_file : goal.returns-in_err-write_file
returns-in_err-write_file g c = part_written g.O.Sink c.args.out.now c.write_file.new.out (file_text (option_copied c.args.file))
    (explanation c.args.refusal.now c.args.name ++ (c.args.detail.now ++ 10 ∷ [])) _ c.from_residual.result c.from_residual.ensures.0 c.in_err-write_file.ensures

pub returns-in_err-write_whole : goal.returns-in_err-write_whole
returns-in_err-write_whole g c =
    let e = c.in_err-write_whole.ensures in
    let result = c.from_residual-in_err-write_whole.result in
    let end : List ℕ = c.args.detail.now ++ 10 ∷ [] in
    let told : c.as_slice.result.now ≡ explanation c.args.refusal.now c.args.name = c.as_slice.ensures ∙ c.explained.ensures.text in
    subst (λ (bytes : List ℕ). WritesText g.O.Sink c.args.out.now c.write_whole.new.sink (file_text (option_copied c.args.file) ++ (bytes ++ end)) result) told
    (both_written g.O.Sink c.args.out.now c.write_file.new.out c.write_whole.new.sink (file_text (option_copied c.args.file)) (c.as_slice.result.now ++ end) result
    c.in_ok-write_file.ensures
    (part_written g.O.Sink c.write_file.new.out c.write_whole.new.sink c.as_slice.result.now end _ result c.from_residual-in_err-write_whole.ensures.0
    (record { adds = e.adds; failed_adds_prefix = e.failed_adds_prefix; failed_rose = e.failed_rose; faults_never_fall = e.faults_never_fall })))

pub returns : goal.returns
returns g c =
    let e = c.in_ok-write_whole.ensures in
    let end : List ℕ = c.args.detail.now ++ 10 ∷ [] in
    let told : c.as_slice.result.now ≡ explanation c.args.refusal.now c.args.name = c.as_slice.ensures ∙ c.explained.ensures.text in
    subst (λ (bytes : List ℕ). WritesText g.O.Sink c.args.out.now c.write_end.new.out (file_text (option_copied c.args.file) ++ (bytes ++ end)) c.write_end.result) told
    (both_written g.O.Sink c.args.out.now c.write_file.new.out c.write_end.new.out (file_text (option_copied c.args.file)) (c.as_slice.result.now ++ end) c.write_end.result
    c.in_ok-write_file.ensures
    (both_written g.O.Sink c.write_file.new.out c.write_whole.new.sink c.write_end.new.out c.as_slice.result.now end c.write_end.result
    (record { adds = e.adds; failed_adds_prefix = tt; failed_rose = tt; faults_never_fall = e.faults_never_fall })
    c.write_end.ensures))
