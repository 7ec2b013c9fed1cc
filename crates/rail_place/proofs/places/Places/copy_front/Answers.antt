use Rattle.std.proofs.Common.{Option, List, ℕ, length, sym, ap, ◌∙◌, subst}
use Rattle.rail_place.specs.PlaceStates.{State, IsFreeBehind}
use Rattle.rail_place.proofs.Giving.{front_written}
use Rattle.rail_place.proofs.Making.{made_alike}
use Rattle.rail_place.proofs.places.Places.copy_front.Goals as goal

-- the holders of the first sections make the table that of the other places
owners_copied : goal.returns-clause-owners
owners_copied c =
    let F : List (Option ℕ) → Type 0 = IsFreeBehind c.args.sections in
    let own = ap (λ (s : State). s.owners) c.self.view_is in
    let others = ap (λ (s : State). s.owners) c.other.view_is in
    front_written c.args.sections c.self.inside.owners.len c.self.inside.owners.items c.other.inside.owners.items c.copy_front.new.owners
    (rw (sym c.as_mut_slice.ensures.value, sym c.as_slice.ensures.value) c.copy_front.ensures)
    (sym (ap length c.as_mut_slice.ensures.value) ∙ c.as_mut_slice.ensures.len)
    (c.other.invariant.sections ∙ sym c.self.invariant.sections ∙ sym (ap length c.as_mut_slice.ensures.value) ∙ c.as_mut_slice.ensures.len)
    (subst F (sym own) c.requires.own)
    (subst F (sym others) c.requires.others)
    ∙ others

pub returns-clause-owners : goal.returns-clause-owners
returns-clause-owners c = owners_copied c

pub returns-clause-made : goal.returns-clause-made
returns-clause-made c = λ table made.
    made_alike table _ c.args.other.now
    (c.replace_rows.ensures.rows ∙ c.deref.ensures.value ∙ ap (λ (s : State). s.positions) c.other.view_is)
    (owners_copied c)
    c.self.invariant.counted
    made
