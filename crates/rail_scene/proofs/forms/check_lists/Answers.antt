use Rattle.std.proofs.Common.{sym, subst, ◌∙◌}
use Rattle.std.specs.Result.{IfErr}
use Rattle.rail_base.proofs.CallerLemmas.{passed_up}
use Rattle.rail_base.specs.Refusals.{AnswersFirst}
use Rattle.rail_scene.proofs.FormSteps.{list_stop, list_pass}
use Rattle.rail_scene.proofs.forms.check_lists.Goals as goal

pub returns-in_err-check_list-clause-refused : goal.returns-in_err-check_list-clause-refused
returns-in_err-check_list-clause-refused c =
    let result = c.from_residual.result in
    subst (λ first. IfErr result (AnswersFirst first)) c.loop-part.invariant
    (passed_up result _ (AnswersFirst _) c.from_residual.ensures.1
    (list_stop c.args.version _ c.args.parts.now c.loop-part.part-index _ c.loop-part-test.true c.key.result _ c.key.ensures c.elements_at.ensures _ c.in_err-check_list.ensures.refused))

pub loop-part-preserved : goal.loop-part-preserved
loop-part-preserved c =
    sym (list_pass c.args.version _ c.args.parts.now c.loop-part.part-index _ c.loop-part-test.true c.key.result _ c.key.ensures c.elements_at.ensures c.in_ok-check_list.ensures.accepted) ∙ c.loop-part.invariant
