use Rattle.std.proofs.Common.{◌≡◌, ℕ, true, List, refl, sym, subst}
use Rattle.std.proofs.lemmas.Bool.{true≢false}
use Rattle.std.proofs.lemmas.Result.{IfOk-weaker}
use Rattle.rail_rules.specs.Analysis.{finds}
use Rattle.rail_place.specs.Tables.{moves_in}
use Rattle.rail_reroute.specs.Judgements.{LeadsTo}
use Rattle.rail_reroute.proofs.States.{finds_none, finds_some}
use Rattle.rail_reroute.proofs.state.find_list.Goals as goal

pub returns-in-Some-clause-answer : goal.returns-in-Some-clause-answer
returns-in-Some-clause-answer c =
    let plan = moves_in c.args.moves.now in
    let s : List ℕ = c.args.places.now.positions in
    let is_found : finds plan c.args.depth s ≡ true = finds_some plan c.args.depth s (λ nothing. true≢false (c.in-Some.ensures.none.1 nothing)) in
    IfOk-weaker c.listed.result _ (LeadsTo plan c.args.depth s) (λ found is. subst (LeadsTo plan c.args.depth s) (sym is) (
      c.requires.made.valid,
      is_found,
      c.in-Some.ensures.some,
    )) c.listed.ensures

pub returns-in-None-clause-answer : goal.returns-in-None-clause-answer
returns-in-None-clause-answer c =
    (c.requires.made.valid, finds_none (moves_in c.args.moves.now) c.args.depth c.args.places.now.positions (c.in-None.ensures.none.0 refl))

pub returns-then-fails-clause-answer : goal.returns-then-fails-clause-answer
returns-then-fails-clause-answer c =
    (c.requires.made.valid, finds_none (moves_in c.args.moves.now) c.args.depth c.args.places.now.positions (c.requires.fails c.if-fails.true))
