use Rattle.std.proofs.Common.{◌+◌, length, ap, sym, ◌∙◌}
use Rattle.std.specs.Option.{option_or}
use Rattle.rail_base.specs.FirstRefusals.{first_failing}
use Rattle.rail_base.proofs.CallerLemmas.{first_failing-append}
use Rattle.rail_routes.specs.RouteRules.{path_from, overlap_from}
use Rattle.rail_routes.proofs.network.leading.way_refusal.Goals as goal

pub returns-in-Some : goal.returns-in-Some
returns-in-Some c =
    let path = path_from c.args.begin.now c.args.end.now c.args.track.now c.args.steps.now in
    let overlap = overlap_from c.args.end.now c.args.track.now (length c.args.steps.now + 1) c.args.overlap.now in
    sym (first_failing-append path overlap ∙ ap (λ o. option_or o (first_failing overlap)) (sym c.in-Some.ensures))

pub returns-in-None : goal.returns-in-None
returns-in-None c =
    let path = path_from c.args.begin.now c.args.end.now c.args.track.now c.args.steps.now in
    let overlap = overlap_from c.args.end.now c.args.track.now (length c.args.steps.now + 1) c.args.overlap.now in
    c.overlap_refusal.ensures ∙ sym (first_failing-append path overlap ∙ ap (λ o. option_or o (first_failing overlap)) (sym c.in-None.ensures))
