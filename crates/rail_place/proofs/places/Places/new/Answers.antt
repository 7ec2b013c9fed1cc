use Rattle.std.proofs.Common.{◌≡◌, ◌++◌, ℕ, ◌<◌, List, length, get_or, map, ap, ◌∙◌, subst}
use Rattle.std.proofs.lemmas.Result.{err_from_is_err_and}
use Rattle.rail_place.specs.declared.holdings.Holding.{Holding}
use Rattle.rail_place.specs.declared.holdings.Holding.TheVariants.{Free}
use Rattle.rail_place.specs.Tables.{moves_in}
use Rattle.rail_place.specs.PlaceStates.{State}
use Rattle.rail_place.specs.Holdings.{IsFirstShared, IsShared, owner_in}
use Rattle.rail_place.proofs.Taking.{made_new, fault_told}
use Rattle.rail_place.proofs.Making.{made_as}
use Rattle.rail_place.proofs.places.Places.new.Goals as goal

pub returns-in_err-owners-clause-fault : goal.returns-in_err-owners-clause-fault
returns-in_err-owners-clause-fault c =
    let hs = c.in_ok-holdings.holdings.items in
    let p = err_from_is_err_and c.from_residual-in_err-owners.result c.from_residual-in_err-owners.ensures.1 in
    let P : List Holding → Type 0 = λ h. IsFirstShared h c.in_err-owners.field-0.0 in
    rw (p.1, p.2) (fault_told (moves_in c.args.moves.now) c.args.positions.now hs c.in_err-owners.field-0.0 c.in_ok-holdings.ensures.room c.in_ok-holdings.ensures.told
    (subst P c.deref.ensures.value c.in_err-owners.ensures.fault))

pub returns-clause-made : goal.returns-clause-made
returns-clause-made c =
    let table = c.args.moves.now in
    let hs = c.in_ok-holdings.holdings.items in
    let own : State = record { positions = c.add_rows.new.table.items; owners = c.in_ok-owners.owners.items; played = 0 } in
    let given : State = record { positions = c.args.positions.now; owners = c.in_ok-owners.owners.items; played = 0 } in
    let copied : c.add_rows.new.table.items ≡ c.args.positions.now = c.add_rows.ensures.rows ∙ ap (λ xs. xs ++ c.args.positions.now) c.in_ok-room.ensures.items in
    let same : own ≡ given = λ i. record { positions = copied i; owners = c.in_ok-owners.owners.items; played = 0 } in
    let P : List Holding → Type 0 = λ h. (x : ℕ) → x < length h → IsShared (get_or h x Free) → ⊥ in
    made_as table own given same
    (made_new table c.args.positions.now hs c.in_ok-owners.owners.items c.trains.ensures.table c.requires.long c.requires.within c.in_ok-holdings.ensures.room
    (c.in_ok-owners.ensures.owners ∙ ap (map owner_in) c.deref.ensures.value)
    c.in_ok-holdings.ensures.told
    (subst P c.deref.ensures.value c.in_ok-owners.ensures.single))
