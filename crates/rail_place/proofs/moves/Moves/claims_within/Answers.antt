use Rattle.std.proofs.Common.{◌≡◌, ◌+◌, ◌-◌, sym, ap, ◌∙◌, arith}
use Rattle.rail_rules.specs.Moves.{Moves}
use Rattle.rail_rules.specs.Numbers.{is_in}
use Rattle.rail_rules.proofs.CallerLemmas.{any_below_from, any_below_none}
use Rattle.rail_place.specs.Tables.{moves_in}
use Rattle.rail_place.proofs.moves.Moves.claims_within.Goals as goal

pub overflow_add-place : goal.overflow_add-place
overflow_add-place c =
    omega (arith, c.requires.last, c.first_claim-first.ensures.table.short c.args.train)

pub returns-then-place-count : goal.returns-then-place-count
returns-then-place-count c =
    let plan : Moves = moves_in c.args.self.now in
    sym (any_below_none (λ m. is_in c.args.section (plan.claim c.args.train (c.args.place + m))) c.args.count
    (λ m below. c.first_claim-first.ensures.none (c.args.place + m) (omega (arith, below, c.if-place-count.true))))

pub returns-then-claims : goal.returns-then-claims
returns-then-claims c =
    let plan : Moves = moves_in c.args.self.now in
    let t = c.args.train in
    let place = c.args.place in
    let step = c.loop-step.step in
    let move : place + step ≡ place + step + 1 - 1 = omega arith in
    sym (any_below_from (λ m. is_in c.args.section (plan.claim t (place + m))) c.args.count step c.loop-step-test.true
    (ap (λ m. is_in c.args.section (plan.claim t m)) move ∙ sym c.claims.ensures ∙ c.if-claims.true))
