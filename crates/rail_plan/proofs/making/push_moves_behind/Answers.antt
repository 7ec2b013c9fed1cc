use Rattle.std.proofs.Common.{ℕ}
use Rattle.rail_plan.specs.PlanFaults.{bare, fault_of_train}
use Rattle.rail_plan.proofs.AlikeTrains.{made_alike, none_alike}
use Rattle.rail_plan.proofs.Firsts.{none_at}
use Rattle.rail_plan.proofs.making.push_moves_behind.Goals as goal

pub returns-in-Some-clause-accepted : goal.returns-in-Some-clause-accepted
returns-in-Some-clause-accepted c =
    let tables = c.args.tables.now in
    let t : ℕ = c.args.train in
    none_alike tables c.in-Some.first t c.in-Some.ensures.alike (none_at (fault_of_train (bare tables)) t c.in-Some.first c.requires.made.none c.in-Some.ensures.before)

pub returns-in-Some-clause-made : goal.returns-in-Some-clause-made
returns-in-Some-clause-made c =
    made_alike c.args.tables.now c.args.train c.in-Some.first c.args.moves.now c.push_like.new.self c.requires.train c.in-Some.ensures.before c.in-Some.ensures.alike c.requires.made
    c.in_ok-push_like.ensures.ok
