use Rattle.std.proofs.Common.{◌≡◌, None, subst, ap, ◌∙◌}
use Rattle.toml.specs.View.{view}
use Rattle.rail_base.specs.FirstRefusals.{first_failing}
use Rattle.rail_scene.specs.SceneItems.{SceneItems}
use Rattle.rail_scene.specs.declared.keys.TheConstants.{LIST_PARTS}
use Rattle.rail_base.specs.Refusals.{AnswersFirst}
use Rattle.rail_scene.specs.Order.{values_of, with_lists, lists_values, listed_items}
use Rattle.rail_scene.proofs.reading.read_lists.Goals as goal

pub returns-in-Err-clause-refused : goal.returns-in-Err-clause-refused
unfolding lists_values
returns-in-Err-clause-refused c =
    let root = view c.args.root.now in
    subst (λ (draft : SceneItems). AnswersFirst (first_failing (values_of c.args.version root draft LIST_PARTS)) c.in-Err.fault) c.new-draft.ensures c.in-Err.ensures.refused

pub returns-in-Ok-clause-accepted : goal.returns-in-Ok-clause-accepted
unfolding lists_values
returns-in-Ok-clause-accepted c =
    let root = view c.args.root.now in
    subst (λ (draft : SceneItems). first_failing (values_of c.args.version root draft LIST_PARTS) ≡ None) c.new-draft.ensures c.in-Ok.ensures.accepted

pub returns-in-Ok-clause-draft : goal.returns-in-Ok-clause-draft
unfolding listed_items
returns-in-Ok-clause-draft c =
    let root = view c.args.root.now in
    c.in-Ok.ensures.added ∙ ap (λ (draft : SceneItems). with_lists c.args.version root LIST_PARTS draft) c.new-draft.ensures
