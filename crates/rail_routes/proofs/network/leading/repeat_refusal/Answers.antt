use Rattle.std.proofs.Common.{[], ap, sym, ◌∙◌}
use Rattle.std.specs.Option.{option_or}
use Rattle.rail_base.specs.FirstRefusals.{first_failing}
use Rattle.rail_base.proofs.CallerLemmas.{first_failing-append}
use Rattle.rail_routes.specs.RouteRules.{repeats_behind}
use Rattle.rail_routes.proofs.network.leading.repeat_refusal.Goals as goal

pub returns-in-Some : goal.returns-in-Some
returns-in-Some c =
    let steps = c.args.steps.now in
    let overlap = c.args.overlap.now in
    sym (first_failing-append (repeats_behind [] steps) (repeats_behind steps overlap) ∙ ap (λ o. option_or o (first_failing (repeats_behind steps overlap))) (sym c.in-Some.ensures))

pub returns-in-None : goal.returns-in-None
returns-in-None c =
    let steps = c.args.steps.now in
    let overlap = c.args.overlap.now in
    c.repeat_behind-in-None.ensures ∙ sym (first_failing-append (repeats_behind [] steps) (repeats_behind steps overlap) ∙ ap (λ o. option_or o (first_failing (repeats_behind steps overlap))) (sym c.in-None.ensures))
