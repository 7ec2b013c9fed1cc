use Rattle.std.proofs.Common.{◌≡◌, ◌≢◌, ℕ, ◌<◌, true, length, set, sym, ap, ◌∙◌, subst, arith}
use Rattle.std.proofs.Common.{Some, None}
use Rattle.std.proofs.lemmas.List.{length-set}
use Rattle.rail_place.proofs.Giving.{length-given}
use Rattle.rail_rules.specs.Numbers.{are_apart}
use Rattle.rail_rules.specs.Moves.{Moves, stand}
use Rattle.rail_rules.specs.Places.{place_of}
use Rattle.rail_place.specs.Tables.{moves_in}
use Rattle.rail_place.specs.PlaceStates.{State, IsMadeFor}
use Rattle.rail_place.proofs.Making.{made_as, made_long, made_within, made_stepped, place_read, room_freed}
use Rattle.rail_place.proofs.places.Places.put.Goals as goal

pub stand-requires-clause-last : goal.stand-requires-clause-last
stand-requires-clause-last c =
    let table = c.args.moves.now in
    let t = c.args.train in
    let s : State = record { positions = c.self.inside.positions.items; owners = c.self.inside.owners.items; played = c.self.inside.played } in
    let made : IsMadeFor table s = made_as table s c.args.self.now c.self.view_is c.requires.made in
    let lt : t < length s.positions = omega (arith, made_long table s made, c.requires.train) in
    let place : c.index-before.result.now ≡ place_of s.positions t = place_read s.positions t c.from.result c.index-before.result.now (c.from.ensures ∙ c.train.view_is) lt c.index-before.ensures in
    omega (arith, place, made_within table s t made)

pub occupy-requires : goal.occupy-requires
occupy-requires c =
    let room = room_freed c.self.inside.owners.items c.release.new.owners.items c.stand.result.now c.release.ensures.owners (ap (λ (s : State). length s.owners) c.self.view_is ∙ c.requires.made.room) in
    λ x is. omega (arith, room, c.stand-2.ensures.in_range x is)

pub returns-clause-made : goal.returns-clause-made
returns-clause-made c =
    let table = c.args.moves.now in
    let plan : Moves = moves_in table in
    let t = c.args.train in
    let now : State = c.args.self.now in
    let s : State = record { positions = c.self.inside.positions.items; owners = c.self.inside.owners.items; played = c.self.inside.played } in
    let same : s ≡ now = c.self.view_is in
    let made : IsMadeFor table s = made_as table s now same c.requires.made in
    let lt : t < length s.positions = omega (arith, made_long table s made, c.requires.train) in
    let place : c.index-before.result.now ≡ place_of s.positions t = place_read s.positions t c.from.result c.index-before.result.now (c.from.ensures ∙ c.train.view_is) lt c.index-before.ensures in
    let P : State → Type 0 = λ r. (u : ℕ) → u ≢ t → are_apart (stand plan t c.args.place) (stand plan u (place_of r.positions u)) ≡ true in
    made_stepped table s t c.args.place c.self.inside.played
    (set s.positions c.from-2.result c.args.place) c.release.new.owners.items c.occupy.new.owners.items c.stand.result.now c.stand-2.result.now
    made.counted made c.requires.train c.requires.within
    (subst P (sym same) c.requires.free)
    (ap (λ k. set s.positions k c.args.place) (c.from-2.ensures ∙ c.train-2.view_is))
    (c.stand.ensures.sections ∙ ap (stand plan t) place)
    c.release.ensures.owners
    c.stand-2.ensures.sections
    c.occupy.ensures.owners

pub invariant_of-self : goal.invariant_of-self
invariant_of-self c = record {
  room = c.self.invariant.room;
  few = omega (arith, length-set c.self.inside.positions.items c.from-2.result c.args.place, c.self.invariant.few);
  sections =
      ap length c.occupy.ensures.owners ∙ length-given c.release.new.owners.items c.stand-2.result.now (Some c.args.train)
      ∙ ap length c.release.ensures.owners ∙ length-given c.self.inside.owners.items c.stand.result.now None
      ∙ c.self.invariant.sections;
  full = c.occupy.ensures.room ∙ c.release.ensures.room ∙ c.self.invariant.full;
  counted = c.self.invariant.counted;
}
