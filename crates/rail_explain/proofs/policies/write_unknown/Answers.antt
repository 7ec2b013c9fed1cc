use Rattle.std.proofs.Common.{◌≡◌, ◌++◌, ◌∷◌, ℕ, List, Some, codes, decimal, ap, ◌∙◌, subst}
use Rattle.rail_text.specs.Writes.{WritesText}
use Rattle.rail_text.proofs.CallerLemmas.{both_written, part_written}
use Rattle.rail_explain.specs.Explanations.{file_text}
use Rattle.rail_explain.specs.Policies.{named_text}
use Rattle.rail_explain.proofs.policies.write_unknown.Goals as goal

pub returns-in_err-write_file : goal.returns-in_err-write_file
returns-in_err-write_file g c = part_written g.O.Sink c.args.out.now c.write_file.new.out (file_text (Some c.args.file.now))
    (((codes "line" ++ 32 ∷ decimal c.args.number) ++ codes ": no policy is named ") ++ named_text c.args.name.now) _ c.from_residual.result c.from_residual.ensures.0 c.in_err-write_file.ensures

pub returns-in_err-write_whole : goal.returns-in_err-write_whole
returns-in_err-write_whole g c =
    let e = c.in_err-write_whole.ensures in
    let result = c.from_residual-in_err-write_whole.result in
    let end : List ℕ = named_text c.args.name.now in
    let place : List ℕ = (codes "line" ++ 32 ∷ decimal c.args.number) ++ codes ": no policy is named " in
    let told : c.as_slice.result.now ≡ place =
    c.as_slice.ensures ∙ c.put-2.ensures
    ∙ ap (λ (l : List ℕ). l ++ codes ": no policy is named ") (c.put_number.ensures.text
    ∙ (λ i. (c.put.ensures ∙ ap (λ (l : List ℕ). l ++ codes "line") c.new-place.ensures) i ++ 32 ∷ decimal (c.from.ensures i))) in
    subst (λ (bytes : List ℕ). WritesText g.O.Sink c.args.out.now c.write_whole.new.sink (file_text (Some c.args.file.now) ++ (bytes ++ end)) result) told
    (both_written g.O.Sink c.args.out.now c.write_file.new.out c.write_whole.new.sink (file_text (Some c.args.file.now)) (c.as_slice.result.now ++ end) result
    c.in_ok-write_file.ensures
    (part_written g.O.Sink c.write_file.new.out c.write_whole.new.sink c.as_slice.result.now end _ result c.from_residual-in_err-write_whole.ensures.0
    (record { adds = e.adds; failed_adds_prefix = e.failed_adds_prefix; failed_rose = e.failed_rose; faults_never_fall = e.faults_never_fall })))

pub returns : goal.returns
returns g c =
    let e = c.in_ok-write_whole.ensures in
    let end : List ℕ = named_text c.args.name.now in
    let place : List ℕ = (codes "line" ++ 32 ∷ decimal c.args.number) ++ codes ": no policy is named " in
    let told : c.as_slice.result.now ≡ place =
    c.as_slice.ensures ∙ c.put-2.ensures
    ∙ ap (λ (l : List ℕ). l ++ codes ": no policy is named ") (c.put_number.ensures.text
    ∙ (λ i. (c.put.ensures ∙ ap (λ (l : List ℕ). l ++ codes "line") c.new-place.ensures) i ++ 32 ∷ decimal (c.from.ensures i))) in
    subst (λ (bytes : List ℕ). WritesText g.O.Sink c.args.out.now c.write_named.new.out (file_text (Some c.args.file.now) ++ (bytes ++ end)) c.write_named.result) told
    (both_written g.O.Sink c.args.out.now c.write_file.new.out c.write_named.new.out (file_text (Some c.args.file.now)) (c.as_slice.result.now ++ end) c.write_named.result
    c.in_ok-write_file.ensures
    (both_written g.O.Sink c.write_file.new.out c.write_whole.new.sink c.write_named.new.out c.as_slice.result.now end c.write_named.result
    (record { adds = e.adds; failed_adds_prefix = tt; failed_rose = tt; faults_never_fall = e.faults_never_fall })
    c.write_named.ensures))
