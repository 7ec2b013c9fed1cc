use Rattle.std.proofs.Common.{◌≡◌, ℕ, ◌<◌, false, List, length, set, refl, sym, ◌∙◌, subst, arith}
use Rattle.rail_rules.specs.Moves.{Moves, stand}
use Rattle.rail_rules.specs.Numbers.{are_apart}
use Rattle.rail_rules.specs.Places.{place_of}
use Rattle.rail_rules.proofs.CallerLemmas.{state_parts}
use Rattle.rail_place.specs.Tables.{moves_in}
use Rattle.rail_place.proofs.CallerLemmas.{made_long}
use Rattle.rail_sets.specs.TrainSets.{has_train}
use Rattle.rail_consequence.specs.Cores.{IsCore}
use Rattle.rail_reroute.proofs.Alike.{core_anywhere, knows}
use Rattle.rail_reroute.proofs.Exchanged.{put_back}
use Rattle.rail_reroute.proofs.Standing.{back_apart}
use Rattle.rail_reroute.proofs.judges.Judge.seek_core.Goals as goal

pub put-requires-2-clause-within : goal.put-requires-2-clause-within
put-requires-2-clause-within c =
    let old = c.args.self.now in
    let made = c.requires.own.places in
    let listed : c.args.train < length old.places.positions = omega (arith, c.requires.train, made_long old.moves old.places made) in
    omega (arith, (state_parts (moves_in old.moves) old.places.positions made.valid).within c.args.train listed, c.position-place.ensures)

pub put-requires-2-clause-free : goal.put-requires-2-clause-free
put-requires-2-clause-free c = λ u other.
    let old = c.args.self.now in
    let t = c.args.train in
    let made = c.requires.own.places in
    let listed : t < length old.places.positions = omega (arith, c.requires.train, made_long old.moves old.places made) in
    (λ i. are_apart (stand (moves_in old.moves) t (c.position-place.ensures i)) (stand (moves_in old.moves) u (place_of (c.put.ensures.positions i) u)))
    ∙ back_apart old.moves old.places.positions t 0 u old.places made refl listed other

pub returns-then-not-has-clause-own : goal.returns-then-not-has-clause-own
returns-then-not-has-clause-own c =
    let old = c.args.self.now in
    let s : List ℕ = old.places.positions in
    let t = c.args.train in
    let plan : Moves = moves_in old.moves in
    let back : c.put-2.new.self.positions ≡ s =
    c.put-2.ensures.positions ∙ (λ i. set (c.put.ensures.positions i) t (c.position-place.ensures i)) ∙ put_back s t 0 0 in
    let core = has_train c.in-Some.core in
    let none : core t ≡ false = sym c.has-in-Some.ensures ∙ c.if-not-has.true in
    let away : IsCore plan old.tables.depth (set s t 0) core = subst (λ (r : List ℕ). IsCore plan old.tables.depth r core) c.put.ensures.positions c.in-Some.ensures.core in
    let here : IsCore plan old.tables.depth s core = core_anywhere plan t 0 old.tables.depth s core none away in
    record {
      plannable = c.requires.own.plannable;
      moves = c.requires.own.moves;
      analyst = c.requires.own.analyst;
      places = c.put-2.ensures.made;
      alone = c.core_among-core.ensures.own;
      known = subst (λ (r : List ℕ). IsCore plan old.tables.depth r core) (sym back) here;
    }

pub returns-else-not-has-clause-own : goal.returns-else-not-has-clause-own
returns-else-not-has-clause-own c =
    let old = c.args.self.now in
    let s : List ℕ = old.places.positions in
    let t = c.args.train in
    let plan : Moves = moves_in old.moves in
    let back : c.put-2.new.self.positions ≡ s =
    c.put-2.ensures.positions ∙ (λ i. set (c.put.ensures.positions i) t (c.position-place.ensures i)) ∙ put_back s t 0 0 in
    record {
      plannable = c.requires.own.plannable;
      moves = c.requires.own.moves;
      analyst = c.requires.own.analyst;
      places = c.put-2.ensures.made;
      alone = c.core_among-core.ensures.own;
      known = knows plan plan old.tables.depth old.tables.depth s c.put-2.new.self.positions old.core old.core refl refl back refl c.requires.own.known;
    }

pub returns-in_default-clause-own : goal.returns-in_default-clause-own
returns-in_default-clause-own c =
    let old = c.args.self.now in
    let s : List ℕ = old.places.positions in
    let t = c.args.train in
    let plan : Moves = moves_in old.moves in
    let back : c.put-2.new.self.positions ≡ s =
    c.put-2.ensures.positions ∙ (λ i. set (c.put.ensures.positions i) t (c.position-place.ensures i)) ∙ put_back s t 0 0 in
    record {
      plannable = c.requires.own.plannable;
      moves = c.requires.own.moves;
      analyst = c.requires.own.analyst;
      places = c.put-2.ensures.made;
      alone = c.core_among-core.ensures.own;
      known = knows plan plan old.tables.depth old.tables.depth s c.put-2.new.self.positions old.core old.core refl refl back refl c.requires.own.known;
    }
