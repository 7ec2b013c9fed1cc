use Rattle.std.proofs.Common.{◌≤◌, ◌*◌, ◌+◌, arith}
use Rattle.std.proofs.lemmas.Nat.{mul-le}
use Rattle.rail_state.proofs.CallerLemmas.{bound_small}
use Rattle.rail_rules.proofs.CallerLemmas.{accepted_parts}
use Rattle.rail_forms.proofs.beginning.most_steps.Goals as goal

small : (c : goal.After-from) → c.event_bound.result * (c.from.result + 1) ≤ 3100000 * 300
small c =
    let accepted = c.moves.ensures.accepted in
    let few = (accepted_parts c.args.plant.now accepted).few_trains in
    mul-le c.event_bound.result (c.from.result + 1) 3100000 300
    (omega (arith, c.event_bound.ensures, bound_small c.args.plant.now accepted, c.requires))
    (omega (arith, c.from.ensures, c.trains.ensures.count, c.moves.ensures.trains, few))

pub overflow_mul-result : goal.overflow_mul-result
overflow_mul-result c = omega (arith, small c)

pub overflow_add-result : goal.overflow_add-result
overflow_add-result c = omega (arith, small c)

pub overflow_add-result-2 : goal.overflow_add-result-2
overflow_add-result-2 c = omega (arith, small c)
