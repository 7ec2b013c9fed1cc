use Rattle.std.proofs.Common.{◌<◌, length, arith, ◌∙◌, ap, sym}
use Rattle.rail_rules.specs.Numbers.{is_in}
use Rattle.rail_rules.specs.Moves.{stand}
use Rattle.rail_place.specs.Tables.{moves_in}
use Rattle.rail_place.proofs.Tables.{stand_at, stand_room, stand_in_range}
use Rattle.rail_place.proofs.moves.Moves.stand.Goals as goal

pub at-requires : goal.at-requires
at-requires c =
    let row = c.row-row.result.now in
    let high : c.from-place.result < length row.claims = omega arith in
    omega (arith, stand_room c.args.self.now c.args.train c.from-place.result row c.row-row.ensures.table c.requires.train c.row-row.ensures.lists c.if-place-gt0.true high)

pub returns-then-place-len-clause-sections : goal.returns-then-place-len-clause-sections
returns-then-place-len-clause-sections c =
    let now = c.args.self.now in
    let row = c.row-row.result.now in
    let high : c.from-place.result < length row.claims = omega arith in
    stand_at now c.args.train c.from-place.result row c.at.result.now c.row-row.ensures.lists c.if-place-gt0.true high c.at.ensures
    ∙ ap (λ p. stand (moves_in now) c.args.train p) c.from-place.ensures

pub returns-then-place-len-clause-in_range : goal.returns-then-place-len-clause-in_range
returns-then-place-len-clause-in_range c =
    λ x stands. stand_in_range c.args.self.now c.args.train c.args.place x c.row-row.ensures.table c.requires.train (ap (is_in x) (sym (returns-then-place-len-clause-sections c)) ∙ stands)
