use Rattle.std.proofs.Common.{◌≡◌, ◌+◌, ◌-◌, ap, ◌∙◌, arith}
use Rattle.rail_rules.specs.Moves.{Moves}
use Rattle.rail_rules.specs.Numbers.{is_in}
use Rattle.rail_rules.specs.Plant.{claimed, step_section}
use Rattle.rail_place.specs.Tables.{moves_in}
use Rattle.rail_block.specs.KnownMoves.{of_over}
use Rattle.rail_block.proofs.moves.KnownOver.is_claimed_next.Goals as goal

pub claims-requires-clause-last : goal.claims-requires-clause-last
claims-requires-clause-last c =
    let known = c.args.self.now.of.now in
    omega (arith, known.last, c.last_place.ensures, c.if-self-last_place.false, ap (λ (table : Moves). table.moves known.train) c.moves.ensures.moves)

pub returns : goal.returns
returns c =
    let known = c.args.self.now.of.now in
    let place = known.place + 1 - 1 in
    let same : place ≡ known.place = omega arith in
    let x = of_over step_section c.args.self.now in
    c.claims.ensures
    ∙ ap (λ y. is_in y ((moves_in c.moves.result.now).claim known.train place)) c.section-section.ensures.section
    ∙ ap (λ (table : Moves). is_in x (table.claim known.train place)) c.moves.ensures.moves
    ∙ ap (λ k. is_in x (claimed known.plant.now known.train k)) same
