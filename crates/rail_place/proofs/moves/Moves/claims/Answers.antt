use Rattle.std.proofs.Common.{◌≡◌, ℕ, ◌-◌, ◌<◌, false, sym, ◌∙◌, arith}
use Rattle.std.proofs.lemmas.Bool.{lt-leb}
use Rattle.rail_rules.specs.Numbers.{is_in}
use Rattle.rail_rules.specs.Moves.{Moves}
use Rattle.rail_place.specs.Tables.{moves_in}
use Rattle.rail_place.proofs.LastMoves.{past_last}
use Rattle.rail_place.proofs.moves.Moves.claims.Goals as goal

pub returns-then-place-first_claim : goal.returns-then-place-first_claim
returns-then-place-first_claim c = sym (c.first_claim.ensures.none (c.args.place - 1) (omega (arith, c.if-place-first_claim.true, c.requires.first)))

pub returns-else-place-last_claim : goal.returns-else-place-last_claim
returns-else-place-last_claim c =
    let plan : Moves = moves_in c.args.self.now in
    let t = c.args.train in
    let x = c.args.section in
    let m : ℕ = c.args.place - 1 in
    let past : c.last_claim.result < c.args.place = omega (arith, c.if-place-last_claim.false) in
    let none : is_in x (plan.claim t m) ≡ false = past_last (λ k. is_in x (plan.claim t k)) (plan.moves t) m (omega (arith, past, c.last_claim.ensures)) (omega (arith, c.requires.first, c.requires.last)) in
    lt-leb c.args.place c.last_claim.result past ∙ sym none
