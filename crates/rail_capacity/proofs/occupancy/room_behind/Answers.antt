use Rattle.std.proofs.Common.{◌≡◌, ℕ, ◌+◌, ◌<◌, length, List, [], ◌∷◌, ◌++◌, take, get_or, sym, subst}
use Rattle.rail_capacity.specs.declared.blocking_times.BlockingTime.{BlockingTime}
use Rattle.rail_capacity.specs.Ends.{IsRoom}
use Rattle.rail_capacity.proofs.Members.{take_next}
use Rattle.rail_capacity.proofs.Rooms.{room_step}
use Rattle.rail_capacity.proofs.occupancy.room_behind.Goals as goal

pub loop-block-preserved : goal.loop-block-preserved
loop-block-preserved c =
    let blocks : List BlockingTime = c.args.blocks.now in
    let k : ℕ = c.loop-block.block-index in
    let block : BlockingTime = c.block-item.result in
    let within : k < length blocks = c.loop-block-test.true in
    let at : get_or blocks k block ≡ block = sym c.block-item.is in
    let grown : take (k + 1) blocks ≡ take k blocks ++ block ∷ [] = take_next blocks k block within at in
    let R : List BlockingTime → ℕ → Type 0 = λ done n. IsRoom done c.args.ends.now c.args.train n in
    subst (λ (done : List BlockingTime). R done c.room_with-room.result) (sym grown)
    (subst (λ (n : ℕ). R (take k blocks ++ block ∷ []) n) (sym c.room_with-room.ensures)
    (room_step (take k blocks) c.args.ends.now c.args.train c.loop-block.room block c.loop-block.invariant))
