use Rattle.std.proofs.Common.{ℕ, List, sym, ◌∙◌, arith}
use Rattle.std.proofs.lemmas.Bool.{or_from}
use Rattle.rail_rules.specs.Analysis.{finds}
use Rattle.rail_rules.specs.Moves.{Moves}
use Rattle.rail_rules.specs.Places.{after}
use Rattle.rail_place.specs.Tables.{moves_in}
use Rattle.rail_place.proofs.CallerLemmas.{made_long}
use Rattle.rail_list.specs.Repairs.{is_repairable_for}
use Rattle.rail_list.proofs.Failing.{failure_finds_none}
use Rattle.rail_list.proofs.repair.is_list_known.Goals as goal

pub returns-then-has-clause-exact : goal.returns-then-has-clause-exact
returns-then-has-clause-exact c =
    let plan : Moves = moves_in c.args.moves.now in
    let s : List ℕ = c.args.places.now.positions in
    let list : List ℕ = c.args.kept.now.trains in
    sym (or_from (is_repairable_for plan s list c.args.train) (finds plan c.args.depth (after s c.args.train))
    (sym c.is_repairable.ensures.exact ∙ c.if-is_repairable.false)
    (failure_finds_none plan c.args.depth s c.args.train c.args.failures.now c.requires.failures (omega (arith, c.requires.train, made_long c.args.moves.now c.args.places.now c.requires.made)) (sym c.has.ensures ∙ c.if-has.true)))
