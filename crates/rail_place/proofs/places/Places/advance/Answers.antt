use Rattle.std.proofs.Common.{◌≡◌, ◌≢◌, ℕ, suc, ◌+◌, ◌<◌, true, length, set, ap, sym, ◌∙◌, subst, arith}
use Rattle.std.proofs.Common.{Some, None, ◌+◌}
use Rattle.std.proofs.lemmas.List.{length-set}
use Rattle.rail_place.proofs.Giving.{length-given}
use Rattle.rail_rules.specs.Numbers.{are_apart}
use Rattle.rail_rules.specs.Moves.{Moves, stand}
use Rattle.rail_rules.specs.Places.{place_of, is_legal}
use Rattle.rail_place.specs.Tables.{moves_in}
use Rattle.rail_place.specs.PlaceStates.{State, IsMadeFor}
use Rattle.rail_place.proofs.Making.{made_as, made_long, made_stepped, place_read, room_freed, legal_ahead, legal_apart}
use Rattle.rail_place.proofs.places.Places.advance.Goals as goal

pub occupy-requires : goal.occupy-requires
occupy-requires c =
    let room = room_freed c.self.inside.owners.items c.release.new.owners.items c.stand.result.now c.release.ensures.owners (ap (λ (s : State). length s.owners) c.self.view_is ∙ c.requires.made.room) in
    λ x is. omega (arith, room, c.stand-2.ensures.in_range x is)

pub returns-clause-made : goal.returns-clause-made
returns-clause-made c =
    let table = c.args.moves.now in
    let plan : Moves = moves_in table in
    let t = c.args.train in
    let s : State = record { positions = c.self.inside.positions.items; owners = c.self.inside.owners.items; played = c.self.inside.played } in
    let made : IsMadeFor table s = made_as table s c.args.self.now c.self.view_is c.requires.made in
    let legal : is_legal plan s.positions t ≡ true = ap (λ (r : State). is_legal plan r.positions t) c.self.view_is ∙ c.requires.legal in
    let lt : t < length s.positions = omega (arith, made_long table s made, c.requires.train) in
    let place : c.index-place.result.now ≡ place_of s.positions t = place_read s.positions t c.from.result c.index-place.result.now (c.from.ensures ∙ c.train.view_is) lt c.index-place.ensures in
    let next : c.index-place.result.now + 1 ≡ suc (place_of s.positions t) = omega arith in
    let P : ℕ → Type 0 = λ q. (u : ℕ) → u ≢ t → are_apart (stand plan t q) (stand plan u (place_of s.positions u)) ≡ true in
    made_stepped table s t (c.index-place.result.now + 1) c.saturating_add-self-inside.result
    (set s.positions c.from-2.result (c.index-place.result.now + 1)) c.release.new.owners.items c.occupy.new.owners.items c.stand.result.now c.stand-2.result.now
    c.saturating_add-self-inside.type_inv made c.requires.train (omega (arith, next, legal_ahead plan s.positions t legal))
    (subst P (sym next) (λ u ne. legal_apart plan s.positions t u made.moves.valid c.requires.train legal))
    (ap (λ k. set s.positions k (c.index-place.result.now + 1)) (c.from-2.ensures ∙ c.train-2.view_is))
    (c.stand.ensures.sections ∙ ap (stand plan t) place)
    c.release.ensures.owners
    c.stand-2.ensures.sections
    c.occupy.ensures.owners

pub invariant_of-self : goal.invariant_of-self
invariant_of-self c = record {
  room = c.self.invariant.room;
  few = omega (arith, length-set c.self.inside.positions.items c.from-2.result (c.index-place.result.now + 1), c.self.invariant.few);
  sections =
      ap length c.occupy.ensures.owners ∙ length-given c.release.new.owners.items c.stand-2.result.now (Some c.args.train)
      ∙ ap length c.release.ensures.owners ∙ length-given c.self.inside.owners.items c.stand.result.now None
      ∙ c.self.invariant.sections;
  full = c.occupy.ensures.room ∙ c.release.ensures.room ∙ c.self.invariant.full;
  counted = c.saturating_add-self-inside.type_inv;
}
