use Rattle.rail_cores.proofs.Cleared.{made_of, places_of}
use Rattle.rail_cores.proofs.alone.Alone.in_the_way.Goals as goal

pub first_in_the_way-requires-clause-played : goal.first_in_the_way-requires-clause-played
first_in_the_way-requires-clause-played c = made_of c.args.moves.now c.args.self.now.places c.requires.made.moves c.requires.own.places

pub returns-clause-own : goal.returns-clause-own
returns-clause-own c = record {
  analyst = c.requires.own.analyst;
  places = places_of c.args.moves.now c.first_in_the_way.new.played c.first_in_the_way.ensures.played;
}
