use Rattle.std.proofs.Common.{◌≡◌, ℕ, ◌+◌, ◌<◌, length, List, [], ◌∷◌, ◌++◌, take, get_or, sym, ap, ◌∙◌, subst, arith}
use Rattle.rail_capacity.specs.declared.blocking_times.BlockingTime.{BlockingTime}
use Rattle.rail_capacity.specs.Ends.{AreEnds}
use Rattle.rail_capacity.proofs.Members.{take_next}
use Rattle.rail_capacity.proofs.Rooms.{ends_more, length-with_end}
use Rattle.rail_capacity.proofs.occupancy.extend_all.Goals as goal

pub loop-block-preserved : goal.loop-block-preserved
loop-block-preserved c =
    let blocks : List BlockingTime = c.args.blocks.now in
    let k : ℕ = c.loop-block.block-index in
    let block : BlockingTime = c.block-item.result in
    let old : List ℕ = c.loop-block.ends in
    let within : k < length blocks = c.loop-block-test.true in
    let at : get_or blocks k block ≡ block = sym c.block-item.is in
    let P : BlockingTime → Type 0 = λ s. s.section < length c.args.ends.now in
    let known : block.section < length c.args.ends.now = subst P at (c.requires.known k block within) in
    let size : length old ≡ length c.args.ends.now = c.loop-block.invariant.size in
    let grown : take (k + 1) blocks ≡ take k blocks ++ block ∷ [] = take_next blocks k block within at in
    let R : List BlockingTime → List ℕ → Type 0 = λ done ends. AreEnds done ends in
    record {
      size = ap (λ (ends : List ℕ). length ends) c.extend.ensures ∙ length-with_end old block ∙ size;
      ends = subst (λ (done : List BlockingTime). R done c.extend.new.ends) (sym grown)
          (subst (λ (ends : List ℕ). R (take k blocks ++ block ∷ []) ends) (sym c.extend.ensures)
          (ends_more (take k blocks) old block c.loop-block.invariant.ends (let low : block.section < length old = omega arith in low)));
    }
