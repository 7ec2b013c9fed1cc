use Rattle.std.proofs.Common.{◌≡◌, sym, ap, ◌∙◌, arith}
use Rattle.rail_rules.specs.Moves.{Moves}
use Rattle.rail_place.specs.Tables.{moves_in}
use Rattle.rail_consequence.specs.Needs.{needs_left}
use Rattle.rail_consequence.proofs.Counts.{left_end}
use Rattle.rail_consequence.proofs.needs.place_or_last.Goals as goal

pub returns-then-place-eq0-clause-alike : goal.returns-then-place-eq0-clause-alike
returns-then-place-eq0-clause-alike c = λ x.
    let plan : Moves = moves_in c.args.moves.now in
    let t = c.args.train in
    let zero : c.args.place ≡ 0 = omega (arith, c.if-place-eq0.true) in
    left_end plan t c.places.result x (omega (arith, c.places.ensures)) ∙ sym (ap (λ p. needs_left plan t p x) zero)
