use Rattle.std.proofs.Common.{◌∷◌, [], sym, subst}
use Rattle.std.specs.Result.{IfErr}
use Rattle.toml.specs.View.{view}
use Rattle.rail_base.specs.FirstRefusals.{first_failing}
use Rattle.rail_base.proofs.CallerLemmas.{passed_up}
use Rattle.rail_track.specs.NetFaults.{Answers}
use Rattle.rail_scene.specs.declared.keys.KeyName.TheVariants as word
use Rattle.rail_scene.specs.declared.versions.Version.{Version}
use Rattle.rail_scene.specs.Keys.{key_of, first_root_keys, root_keys}
use Rattle.rail_scene.specs.Values.{value_tests}
use Rattle.rail_scene.proofs.Segments.{answers_before}
use Rattle.rail_scene.proofs.reading.read_header.Goals as goal

pub returns-in_err-header-in-Two-clause-refused : goal.returns-in_err-header-in-Two-clause-refused
returns-in_err-header-in-Two-clause-refused c =
    let root = view c.args.root.now in
    let result = c.from_residual.result in
    subst (λ (v : Version). IfErr result (Answers (first_failing (value_tests 1 (root_keys v) root)))) (sym c.in-Two.is)
    (passed_up result _ (Answers _) c.from_residual.ensures.1
    (answers_before (value_tests 1 first_root_keys root) (value_tests 13 (key_of word.OverlapTime ∷ []) root) _ c.in_err-header-in-Two.ensures.refused))
