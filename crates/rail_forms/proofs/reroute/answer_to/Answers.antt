use Rattle.std.proofs.Common.{◌<◌, List, ℕ, length, sym, ap, ◌∙◌, subst}
use Rattle.rail_compile.specs.Refusals.{are_known}
use Rattle.rail_forms.proofs.Reroutings.{as_many, ready_parts, within}
use Rattle.rail_forms.proofs.reroute.answer_to.Goals as goal

pub judge-requires-clause-train : goal.judge-requires-clause-train
judge-requires-clause-train c = (ready_parts c.args.scene.now c.args.proposal.now c.requires.ready).train

pub judge-requires-clause-long : goal.judge-requires-clause-long
judge-requires-clause-long c = as_many c.args.scene.now c.args.positions.now c.requires.valid

pub judge-requires-clause-within : goal.judge-requires-clause-within
judge-requires-clause-within c = within c.args.scene.now c.args.positions.now c.requires.valid

pub judge-requires-clause-some : goal.judge-requires-clause-some
judge-requires-clause-some c =
    subst (λ (routes : List (List ℕ)). 0 < length routes) (sym c.as_slice.ensures) (ready_parts c.args.scene.now c.args.proposal.now c.requires.ready).some

pub judge-requires-clause-known : goal.judge-requires-clause-known
judge-requires-clause-known c = ap (are_known c.args.scene.now.network) c.as_slice.ensures ∙ (ready_parts c.args.scene.now c.args.proposal.now c.requires.ready).known
