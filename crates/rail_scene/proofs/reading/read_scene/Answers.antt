use Rattle.std.proofs.Common.{◌≡◌, None, subst}
use Rattle.std.specs.Result.{OnOk, IfOk, IfErr}
use Rattle.toml.specs.Data.{Data}
use Rattle.rail_base.specs.FirstRefusals.{first_failing}
use Rattle.rail_base.proofs.CallerLemmas.{passed_up}
use Rattle.rail_scene.specs.declared.scene.Scene.{Scene}
use Rattle.rail_scene.specs.declared.versions.Version.{Version}
use Rattle.rail_scene.specs.Fields.{version_of}
use Rattle.rail_scene.specs.SpelledScenes.{spelled_scene, scene_of}
use Rattle.rail_base.specs.Refusals.{AnswersFirst}
use Rattle.rail_scene.specs.Order.{scene_forms, scene_values}
use Rattle.rail_scene.proofs.Whole.{at_toml, at_forms, read_result}
use Rattle.rail_scene.proofs.reading.read_scene.Goals as goal

-- what holds of a root by the version that it names
by_root : (P : Version → Data → Type 0) {root other : Data} {version : Version} → root ≡ other → version ≡ version_of root
    → P version root → P (version_of other) other
by_root P {root = root} is named holds = subst (λ (d : Data). P (version_of d) d) is (subst (λ (v : Version). P v root) named holds)

pub returns-in_err-root-clause-refused : goal.returns-in_err-root-clause-refused
returns-in_err-root-clause-refused c =
    passed_up c.from_residual.result _ _ c.from_residual.ensures.1
    (at_toml c.args.bytes.now _ c.in_err-root.ensures.refused)

pub returns-clause-accepted : goal.returns-clause-accepted
returns-clause-accepted c =
    let root = c.in_ok-root.ensures.root in
    let r = c.read_values.result in
    let version = c.version_of-version.ensures in
    let forms = by_root (λ v d. first_failing (scene_forms v d) ≡ None) root version c.in_ok-check_forms.ensures.accepted in
    let accepted = by_root (λ v d. OnOk r (first_failing (scene_values v d) ≡ None)) root version c.read_values.ensures.accepted in
    let refused = by_root (λ v d. IfErr r (AnswersFirst (first_failing (scene_values v d)))) root version c.read_values.ensures.refused in
    (read_result c.args.bytes.now r c.in_ok-root.ensures.accepted forms accepted refused).0

pub returns-clause-refused : goal.returns-clause-refused
returns-clause-refused c =
    let root = c.in_ok-root.ensures.root in
    let r = c.read_values.result in
    let version = c.version_of-version.ensures in
    let forms = by_root (λ v d. first_failing (scene_forms v d) ≡ None) root version c.in_ok-check_forms.ensures.accepted in
    let accepted = by_root (λ v d. OnOk r (first_failing (scene_values v d) ≡ None)) root version c.read_values.ensures.accepted in
    let refused = by_root (λ v d. IfErr r (AnswersFirst (first_failing (scene_values v d)))) root version c.read_values.ensures.refused in
    (read_result c.args.bytes.now r c.in_ok-root.ensures.accepted forms accepted refused).1

pub returns-clause-spelled : goal.returns-clause-spelled
unfolding spelled_scene
returns-clause-spelled c =
    by_root (λ v d. IfOk c.read_values.result (λ (scene : Scene). scene ≡ scene_of v d)) c.in_ok-root.ensures.root c.version_of-version.ensures c.read_values.ensures.spelled

pub returns-in_err-check_forms-clause-refused : goal.returns-in_err-check_forms-clause-refused
returns-in_err-check_forms-clause-refused c =
    passed_up c.from_residual-in_err-check_forms.result _ _ c.from_residual-in_err-check_forms.ensures.1
    (at_forms c.args.bytes.now c.in_ok-root.ensures.accepted _
    (by_root (λ v d. AnswersFirst (first_failing (scene_forms v d)) c.in_err-check_forms.field-0.0) c.in_ok-root.ensures.root c.version_of-version.ensures c.in_err-check_forms.ensures.refused))
