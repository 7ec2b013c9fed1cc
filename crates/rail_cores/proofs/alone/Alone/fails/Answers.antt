use Rattle.std.proofs.Common.{◌≡◌, List, length, sym, ◌∙◌}
use Rattle.std.proofs.lemmas.Bool.{not-true}
use Rattle.rail_place.specs.PlaceStates.{State}
use Rattle.rail_place.specs.Tables.{MoveLists, moves_in}
use Rattle.rail_place.proofs.CallerLemmas.{made_long}
use Rattle.rail_cores.proofs.Cleared.{alone_core, made_of, places_of}
use Rattle.rail_cores.proofs.alone.Alone.fails.Goals as goal

pub clear-requires : goal.clear-requires
clear-requires c = record { made = made_of c.args.moves.now c.args.self.now.places c.requires.made.moves c.requires.own.places }

pub returns-clause-own : goal.returns-clause-own
returns-clause-own c = record {
  analyst = c.search.ensures.own;
  places = places_of c.args.moves.now c.stand_alone.new.to c.stand_alone.ensures.made;
}

pub returns-clause-core : goal.returns-clause-core
returns-clause-core c = λ yes.
    let table : List MoveLists = c.args.moves.now in
    let s : State = c.args.places.now in
    let q : State = c.stand_alone.new.to in
    let long : length q.positions ≡ length s.positions = made_long table q c.stand_alone.ensures.made ∙ sym (made_long table s c.requires.made) in
    alone_core (moves_in table) c.args.depth s.positions q.positions c.args.trains.now c.what_can_be_found_can_be_found_ahead.ensures long c.stand_alone.ensures.alone (c.search.ensures.answer.none (not-true c.search.result yes))
