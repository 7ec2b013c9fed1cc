use Rattle.std.proofs.Common.{◌≡◌, ℕ, ◌+◌, ◌<◌, length, List, [], ◌∷◌, ◌++◌, take, get_or, sym, ap, subst}
use Rattle.rail_capacity.specs.declared.blocking_times.BlockingTime.{BlockingTime}
use Rattle.rail_capacity.specs.Occupancy.{IsFirstBlock}
use Rattle.rail_capacity.proofs.Members.{take_next}
use Rattle.rail_capacity.proofs.Rooms.{first_step}
use Rattle.rail_capacity.proofs.occupancy.first_block.Goals as goal

pub loop-block-preserved : goal.loop-block-preserved
loop-block-preserved c =
    let blocks : List BlockingTime = c.args.blocks.now in
    let k : ℕ = c.loop-block.block-index in
    let block : BlockingTime = c.block-item.result in
    let within : k < length blocks = c.loop-block-test.true in
    let at : get_or blocks k block ≡ block = sym c.block-item.is in
    let grown : take (k + 1) blocks ≡ take k blocks ++ block ∷ [] = take_next blocks k block within at in
    let R : List BlockingTime → BlockingTime → Type 0 = λ done s. IsFirstBlock done s in
    subst (λ (done : List BlockingTime). R done c.first_of.result) (sym grown)
    (subst (λ (s : BlockingTime). R (take k blocks ++ block ∷ []) s) (sym c.first_of.ensures)
    (first_step (take k blocks) c.loop-block.first block k c.loop-block.invariant (λ none. ap (λ n. take n blocks) none)))
