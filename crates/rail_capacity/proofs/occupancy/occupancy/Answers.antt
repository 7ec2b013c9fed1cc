use Rattle.std.proofs.Common.{ℕ, List, refl, subst}
use Rattle.rail_capacity.specs.Ends.{IsRoom}
use Rattle.rail_capacity.proofs.Rooms.{occupied}
use Rattle.rail_capacity.proofs.occupancy.occupancy.Goals as goal

pub returns-clause-occupancy : goal.returns-clause-occupancy
returns-clause-occupancy c =
    let P : List ℕ → Type 0 = λ ends. IsRoom c.args.blocks.now ends c.in-Some.first.train c.room_behind.result in
    occupied c.args.blocks.now c.in_ok-ends.ends.items c.in-Some.first.train c.room_behind.result (record { block = c.in-Some.first; is = c.in-Some.ensures; train_is = refl }) c.in_ok-ends.ensures.ends (subst P c.deref.ensures.value c.room_behind.ensures)
