use Rattle.std.proofs.Common.{◌≡◌, ℕ, ◌+◌, ◌-◌, ◌<◌, List, length, get_or, ap, sym, refl, ◌∙◌, arith}
use Rattle.std.proofs.lemmas.Bool.{false≢true}
use Rattle.std.proofs.lemmas.Option.{none-some}
use Rattle.rail_rules.specs.Places.{place_of}
use Rattle.rail_place.specs.Tables.{moves_in, MoveLists}
use Rattle.rail_place.specs.PlaceStates.{State, IsMadeFor}
use Rattle.rail_place.specs.Owners.{first_owned_in}
use Rattle.rail_place.specs.Bars.{bar_of}
use Rattle.rail_place.proofs.Making.{made_as, made_long, place_read, bar_ahead, legal_from_none, none_from_legal}
use Rattle.rail_place.proofs.places.Places.legal.Goals as goal

-- what bars the move is the first claimed section that has an owner
found : (table : List MoveLists) (s now : State) (t k place m : ℕ) (xs : List ℕ) → s ≡ now
    → IsMadeFor table now → t < length table → k ≡ t → place ≡ get_or s.positions k place
    → place < (moves_in table).moves t → m ≡ place → xs ≡ (moves_in table).claim t m
    → bar_of (moves_in table) now.positions t ≡ first_owned_in s.owners xs
found table s now t k place m xs same made lt index is more at needed =
    let here : IsMadeFor table s = made_as table s now same made in
    let lt_s : t < length s.positions = omega (arith, made_long table s here) in
    let read : place ≡ place_of s.positions t = place_read s.positions t k place index lt_s is in
    ap (λ (r : State). bar_of (moves_in table) r.positions t) (sym same)
    ∙ bar_ahead (moves_in table) s.positions s.owners t place xs here.told read more (needed ∙ ap ((moves_in table).claim t) at)

pub returns-in-Some-clause-exact : goal.returns-in-Some-clause-exact
returns-in-Some-clause-exact c =
    let s : State = record { positions = c.self.inside.positions.items; owners = c.self.inside.owners.items; played = c.self.inside.played } in
    found c.args.moves.now s c.args.self.now c.args.train c.from.result c.index-place.result.now
    (c.index-place.result.now + 1 - 1)
    c.claim.result.now c.self.view_is c.requires.made c.requires.train
    (c.from.ensures ∙ c.train.view_is)
    c.index-place.ensures
    (omega (arith, c.places.ensures))
    (omega arith)
    c.claim.ensures.sections
    ∙ sym c.first_owned.ensures ∙ c.in-Some.is

pub returns-in-Some-clause-legal : goal.returns-in-Some-clause-legal
returns-in-Some-clause-legal c = (
  λ h. absurd (false≢true h),
  λ legal. absurd (none-some c.in-Some.why (sym (none_from_legal (moves_in c.args.moves.now) c.args.self.now.positions c.args.train legal) ∙ returns-in-Some-clause-exact c)),
)

pub returns-in-None-clause-exact : goal.returns-in-None-clause-exact
returns-in-None-clause-exact c =
    let s : State = record { positions = c.self.inside.positions.items; owners = c.self.inside.owners.items; played = c.self.inside.played } in
    found c.args.moves.now s c.args.self.now c.args.train c.from.result c.index-place.result.now
    (c.index-place.result.now + 1 - 1)
    c.claim.result.now c.self.view_is c.requires.made c.requires.train
    (c.from.ensures ∙ c.train.view_is)
    c.index-place.ensures
    (omega (arith, c.places.ensures))
    (omega arith)
    c.claim.ensures.sections
    ∙ sym c.first_owned.ensures ∙ c.in-None.is

pub returns-in-None-clause-legal : goal.returns-in-None-clause-legal
returns-in-None-clause-legal c = (
  λ _. legal_from_none (moves_in c.args.moves.now) c.args.self.now.positions c.args.train (returns-in-None-clause-exact c),
  λ _. refl,
)
