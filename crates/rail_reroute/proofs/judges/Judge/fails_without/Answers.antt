use Rattle.std.proofs.Common.{sym, ◌∙◌}
use Rattle.std.proofs.lemmas.Bool.{not-true}
use Rattle.rail_place.specs.Tables.{moves_in}
use Rattle.rail_sets.specs.TrainSets.{has_train}
use Rattle.rail_reroute.proofs.Alike.{known_core}
use Rattle.rail_reroute.proofs.judges.Judge.fails_without.Goals as goal

pub returns-in-Some : goal.returns-in-Some
returns-in-Some c = λ yes.
    let state = c.args.self.now in (
      has_train c.in-Some.core,
      sym c.has.ensures ∙ not-true c.has.result yes,
      known_core (moves_in state.moves) state.tables.depth state.places.positions state.core c.in-Some.core c.in-Some.is c.requires.known,
    )
