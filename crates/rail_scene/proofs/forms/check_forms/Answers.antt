use Rattle.std.proofs.Common.{◌≡◌, List, Some, None, sym, ap, ◌∙◌}
use Rattle.toml.specs.View.{view}
use Rattle.rail_base.specs.declared.refusals.Part.TheVariants.{Root}
use Rattle.rail_base.specs.FirstRefusals.{first_failing}
use Rattle.rail_track.proofs.CallerLemmas.{answers_first}
use Rattle.rail_scene.specs.declared.keys.Key.{Key}
use Rattle.rail_scene.specs.declared.keys.TheConstants.{LIST_PARTS}
use Rattle.rail_scene.specs.Keys.{root_keys}
use Rattle.rail_scene.specs.Forms.{form_tests}
use Rattle.rail_scene.specs.Order.{located, forms_of, scene_forms}
use Rattle.rail_scene.proofs.Segments.{scene_before, result_after}
use Rattle.rail_scene.proofs.Locating.{located_none, answers_located}
use Rattle.rail_scene.proofs.forms.check_forms.Goals as goal

pub returns-in-Some-clause-refused : goal.returns-in-Some-clause-refused
unfolding scene_forms
returns-in-Some-clause-refused c =
    let root = view c.args.root.now in
    let version = c.args.version in
    let ts = form_tests (root_keys version) root in
    let found : first_failing ts ≡ Some c.in-Some.fault =
    ap (λ (keys : List Key). first_failing (form_tests keys root)) (sym c.root_keys.ensures.keys) ∙ sym c.in-Some.ensures in
    rw c.located.ensures (scene_before (located Root 0 ts) (forms_of version root LIST_PARTS) _ (answers_located Root 0 ts c.in-Some.fault (answers_first (first_failing ts) c.in-Some.fault found)))

pub returns-in-None-clause-accepted : goal.returns-in-None-clause-accepted
unfolding scene_forms
returns-in-None-clause-accepted c =
    let root = view c.args.root.now in
    let version = c.args.version in
    let ts = form_tests (root_keys version) root in
    let none : first_failing ts ≡ None =
    ap (λ (keys : List Key). first_failing (form_tests keys root)) (sym c.root_keys.ensures.keys) ∙ sym c.in-None.ensures in
    (result_after (located Root 0 ts) (forms_of version root LIST_PARTS) c.check_lists.result (located_none Root 0 ts none) c.check_lists.ensures.accepted c.check_lists.ensures.refused).0

pub returns-in-None-clause-refused : goal.returns-in-None-clause-refused
unfolding scene_forms
returns-in-None-clause-refused c =
    let root = view c.args.root.now in
    let version = c.args.version in
    let ts = form_tests (root_keys version) root in
    let none : first_failing ts ≡ None =
    ap (λ (keys : List Key). first_failing (form_tests keys root)) (sym c.root_keys.ensures.keys) ∙ sym c.in-None.ensures in
    (result_after (located Root 0 ts) (forms_of version root LIST_PARTS) c.check_lists.result (located_none Root 0 ts none) c.check_lists.ensures.accepted c.check_lists.ensures.refused).1
