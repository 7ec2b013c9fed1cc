use Rattle.std.proofs.Common.{◌+◌, drop, sym, ap, subst, ◌∙◌}
use Rattle.std.specs.Result.{IfErr}
use Rattle.toml.specs.View.{view}
use Rattle.rail_base.specs.FirstRefusals.{first_failing}
use Rattle.rail_base.proofs.CallerLemmas.{passed_up}
use Rattle.rail_scene.specs.SceneItems.{SceneItems}
use Rattle.rail_base.specs.Refusals.{AnswersFirst}
use Rattle.rail_scene.specs.Order.{values_of, with_lists}
use Rattle.rail_scene.proofs.Drafting.{values_stop, values_pass, lists_pass}
use Rattle.rail_scene.proofs.draft.Draft.add_lists.Goals as goal

pub returns-in_err-add_list-clause-refused : goal.returns-in_err-add_list-clause-refused
returns-in_err-add_list-clause-refused c =
    let result = c.from_residual.result in
    subst (λ first. IfErr result (AnswersFirst first)) c.loop-part.invariant.0
    (passed_up result _ (AnswersFirst _) c.from_residual.ensures.1
    (values_stop c.args.version (view c.args.root.now) c.loop-part.self c.args.parts.now c.loop-part.part-index _ c.loop-part-test.true c.key.result _ c.key.ensures c.elements_at.ensures _ c.in_err-add_list.ensures.refused))

pub loop-part-preserved : goal.loop-part-preserved
loop-part-preserved c =
    let root = view c.args.root.now in
    let parts = c.args.parts.now in
    let i = c.loop-part.part-index in
    let draft = c.loop-part.self in
    let added = c.in_ok-add_list.ensures.added in (
      ap (λ (next : SceneItems). first_failing (values_of c.args.version root next (drop (i + 1) parts))) added
          ∙ sym (values_pass c.args.version root draft parts i _ c.loop-part-test.true c.key.result _ c.key.ensures c.elements_at.ensures c.in_ok-add_list.ensures.accepted)
          ∙ c.loop-part.invariant.0,
      ap (λ (next : SceneItems). with_lists c.args.version root (drop (i + 1) parts) next) added
          ∙ sym (lists_pass c.args.version root draft parts i _ c.loop-part-test.true c.key.result _ c.key.ensures c.elements_at.ensures)
          ∙ c.loop-part.invariant.1,
    )
