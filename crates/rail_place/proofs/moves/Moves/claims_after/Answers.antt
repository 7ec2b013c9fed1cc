use Rattle.std.proofs.Common.{ltb, ap, ◌∙◌}
use Rattle.rail_rules.specs.Numbers.{is_in}
use Rattle.rail_rules.specs.Moves.{Moves}
use Rattle.rail_place.specs.Tables.{moves_in}
use Rattle.rail_place.proofs.LastMoves.{left_is}
use Rattle.rail_place.proofs.moves.Moves.claims_after.Goals as goal

pub returns : goal.returns
returns c =
    let plan : Moves = moves_in c.args.self.now in
    ap (ltb c.args.place) c.last_claim.ensures
    ∙ left_is (λ m. is_in c.args.section (plan.claim c.args.train m)) (plan.moves c.args.train) c.args.place
