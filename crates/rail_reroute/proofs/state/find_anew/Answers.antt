use Rattle.std.proofs.Common.{ℕ, List, sym, subst}
use Rattle.std.proofs.lemmas.Result.{IfOk-weaker}
use Rattle.rail_place.specs.Tables.{moves_in}
use Rattle.rail_reroute.specs.Judgements.{LeadsTo}
use Rattle.rail_reroute.proofs.state.find_anew.Goals as goal

pub returns-in-Err-clause-answer : goal.returns-in-Err-clause-answer
returns-in-Err-clause-answer c =
    let plan = moves_in c.args.moves.now in
    let s : List ℕ = c.args.positions.now in
    IfOk-weaker c.found_for.result _ (LeadsTo plan c.args.depth s) (λ found parts. subst (LeadsTo plan c.args.depth s) (sym parts.3) parts.4)
    (c.found_for.ensures plan s c.in-Err.ensures.fault)
