use Rattle.std.proofs.Common.{ap, ◌∙◌, arith}
use Rattle.rail_rules.specs.Places.{place_of}
use Rattle.rail_consequence.specs.Workspace.{Work}
use Rattle.rail_consequence.proofs.Holding.{place_within}
use Rattle.rail_consequence.proofs.analyst.Worksheet.is_touched.Goals as goal

pub rest-requires-clause-within : goal.rest-requires-clause-within
rest-requires-clause-within g c =
    let at = c.position.ensures ∙ ap (λ (w : Work). place_of w.places.positions c.args.train) c.self.view_is in
    omega (arith, at, place_within c.args.moves.now c.args.self.now.places c.args.train c.requires.ready.made c.requires.train)
