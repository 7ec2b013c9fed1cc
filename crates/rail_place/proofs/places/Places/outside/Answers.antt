use Rattle.std.proofs.Common.{◌≡◌, ℕ, Option, None, length, replicate, ap, ◌∙◌, arith}
use Rattle.rail_base.specs.declared.limits.TheConstants.{SECTIONS}
use Rattle.rail_place.proofs.Taking.{made_outside}
use Rattle.rail_place.proofs.Making.{made_as}
use Rattle.rail_place.proofs.places.Places.outside.Goals as goal

pub returns-clause-positions : goal.returns-clause-positions
returns-clause-positions c =
    c.in_ok-copies.ensures.rows ∙ ap (λ n. replicate {A = ℕ} n 0) (omega (arith, c.from.ensures, c.trains.ensures.count))

pub returns-clause-made : goal.returns-clause-made
returns-clause-made c =
    let table = c.args.moves.now in
    let n : ℕ = length table in
    let positions : c.in_ok-copies.field-0.items ≡ replicate {A = ℕ} n 0 = c.in_ok-copies.ensures.rows ∙ ap (λ k. replicate {A = ℕ} k 0) (omega (arith, c.from.ensures, c.trains.ensures.count)) in
    made_as table (record { positions = c.in_ok-copies.field-0.items; owners = c.in_ok-copies-2.field-0.items; played = 0 }) (record { positions = replicate {A = ℕ} n 0; owners = replicate {A = Option ℕ} SECTIONS None; played = 0 })
    (λ i. record { positions = positions i; owners = c.in_ok-copies-2.ensures.rows i; played = 0 })
    (made_outside table c.trains.ensures.table)
