use Rattle.std.proofs.Common.{◌≡◌, ℕ, ◌≤◌, true, List, subst, ⊎_elim, arith}
use Rattle.std.proofs.lemmas.Bool.{cases_lt}
use Rattle.rail_rules.specs.Moves.{Moves}
use Rattle.rail_rules.specs.Places.{is_inside}
use Rattle.rail_place.specs.Tables.{moves_in}
use Rattle.rail_consequence.specs.declared.notes.Stop.{Stop}
use Rattle.rail_consequence.specs.Stops.{AreSettledBelow, AreSettledFrom, IsNoted, IsSettledTrain}
use Rattle.rail_consequence.specs.Workspace.{IsListing}
use Rattle.rail_consequence.proofs.Counts.{in_index}
use Rattle.rail_consequence.proofs.Legs.{goes_parts}
use Rattle.rail_consequence.proofs.Listing.{listed_on}
use Rattle.rail_consequence.proofs.Played.{goes_further}
use Rattle.rail_consequence.proofs.Walks.{both_ways}
use Rattle.rail_consequence.proofs.analyst.Worksheet.close.Goals as goal

-- where all trains of the list are settled, each is that is inside
all_settled : (plan : Moves) (s : List ℕ) (stops : List Stop) (trains : List ℕ) (from upto u : ℕ) → upto ≤ from → IsListing plan s trains → AreSettledBelow plan s stops trains from → AreSettledFrom plan s stops trains upto → is_inside plan s u ≡ true → IsSettledTrain plan s stops u
all_settled plan s stops trains from upto u meet listed before settled inside =
    let found = in_index u trains (listed.all u inside) in
    let P : ℕ → Type 0 = λ v. IsSettledTrain plan s stops v in
    subst P found.2
    (⊎_elim
    (λ earlier. before found.0 earlier)
    (λ later. settled found.0 (omega (arith, meet, later)) found.1)
    (cases_lt found.0 from))

pub make_safe_legs-upto-requires-clause-listed : goal.make_safe_legs-upto-requires-clause-listed
make_safe_legs-upto-requires-clause-listed g c = listed_on (moves_in c.args.moves.now) c.args.self.now c.loop-from.self c.args.inside.now c.loop-from.invariant.goes c.requires.listed

pub loop-from-preserved : goal.loop-from-preserved
loop-from-preserved g c =
    let plan : Moves = moves_in c.args.moves.now in
    let a = c.args.self.now in
    let b = c.loop-from.self in
    let d = c.make_safe_legs-upto.new.self in
    record {
      ready = c.make_safe_legs-upto.ensures.ready;
      noted = c.make_safe_legs-upto.ensures.noted;
      goes = goes_further plan a b d c.loop-from.invariant.goes c.make_safe_legs-upto.ensures.moves;
      same = both_ways plan a.places.positions b.places.positions d.places.positions c.loop-from.invariant.same c.make_safe_legs-upto.ensures.same;
      ahead = λ start ahead. c.make_safe_legs-upto.ensures.ahead start (c.loop-from.invariant.ahead start ahead);
      within = c.make_safe_legs-upto.ensures.within;
      before = λ i none. absurd (omega (arith, none));
      settled = c.make_safe_legs-upto.ensures.settled;
    }

pub returns-clause-none : goal.returns-clause-none
returns-clause-none g c =
    let plan : Moves = moves_in c.args.moves.now in
    let s = c.loop-from.self.places.positions in
    let listed = listed_on plan c.args.self.now c.loop-from.self c.args.inside.now c.loop-from.invariant.goes c.requires.listed in
    λ leg is. (all_settled plan s c.loop-from.notes.stops c.args.inside.now c.loop-from.from c.loop-from.upto leg.train (omega arith) listed c.loop-from.invariant.before c.loop-from.invariant.settled (goes_parts plan s leg is).inside).none leg.place is

pub returns-clause-settled : goal.returns-clause-settled
returns-clause-settled g c =
    let plan : Moves = moves_in c.args.moves.now in
    let s = c.loop-from.self.places.positions in
    let stops : List Stop = c.loop-from.notes.stops in
    let listed = listed_on plan c.args.self.now c.loop-from.self c.args.inside.now c.loop-from.invariant.goes c.requires.listed in
    record {
      stopped = λ u x inside noted. (all_settled plan s stops c.args.inside.now c.loop-from.from c.loop-from.upto u (omega arith) listed c.loop-from.invariant.before c.loop-from.invariant.settled inside).stopped x inside noted;
      next = λ u x inside noted.
          let P : Stop → Type 0 = λ stop. IsNoted plan s c.loop-from.notes.fell u stop in
          subst P noted (c.loop-from.invariant.noted.each u inside);
    }
