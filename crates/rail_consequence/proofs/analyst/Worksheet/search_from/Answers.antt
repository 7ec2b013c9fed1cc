use Rattle.std.proofs.Common.{ℕ, List, sym, subst}
use Rattle.rail_rules.specs.Moves.{Moves}
use Rattle.rail_place.specs.Tables.{moves_in}
use Rattle.rail_consequence.specs.Cores.{LeadsAhead}
use Rattle.rail_consequence.proofs.Listing.{listed_on}
use Rattle.rail_consequence.proofs.Played.{goes_further}
use Rattle.rail_consequence.proofs.Walks.{finds_at, goes_searched}
use Rattle.rail_consequence.proofs.analyst.Worksheet.search_from.Goals as goal

pub search_on-requires-clause-listed : goal.search_on-requires-clause-listed
search_on-requires-clause-listed g c = listed_on (moves_in c.args.moves.now) c.args.self.now c.close.new.self c.args.inside.now c.close.ensures.moves c.requires.listed

pub returns-clause-found : goal.returns-clause-found
returns-clause-found g c = λ yes.
    let found = c.search_on.ensures.found yes in (
      goes_further (moves_in c.args.moves.now) c.args.self.now c.close.new.self c.search_on.new.self c.close.ensures.moves found.0,
      found.1,
      (c.close.ensures.same c.args.depth).1 found.2,
    )

pub returns-clause-moves : goal.returns-clause-moves
returns-clause-moves g c =
    let plan : Moves = moves_in c.args.moves.now in
    let b = c.close.new.self in
    let e = c.search_on.new.self in
    goes_further plan c.args.self.now b e c.close.ensures.moves (goes_searched plan c.args.depth b e c.search_on.result c.search_on.ensures.found c.search_on.ensures.none)

pub returns-clause-ahead : goal.returns-clause-ahead
returns-clause-ahead g c = λ no.
    let P : List ℕ → Type 0 = λ q. LeadsAhead (moves_in c.args.moves.now) c.args.self.now.places.positions q in
    subst P (sym (c.search_on.ensures.none no).0.positions) c.close.ensures.ahead

pub returns-clause-none : goal.returns-clause-none
returns-clause-none g c = λ no.
    let plan : Moves = moves_in c.args.moves.now in
    let none = c.search_on.ensures.none no in (
      λ found. none.1 ((c.close.ensures.same c.args.depth).0 found),
      λ found. none.1 (finds_at plan c.args.depth c.search_on.new.self.places.positions c.close.new.self.places.positions none.0.positions found),
    )
