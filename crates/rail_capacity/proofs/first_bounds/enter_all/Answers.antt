use Rattle.std.proofs.Common.{◌≡◌, ℕ, ◌+◌, ◌<◌, ◌≤◌, length, List, [], ◌∷◌, ◌++◌, take, get_or, sym, ap, ◌∙◌, subst, arith}
use Rattle.rail_capacity.specs.declared.blocking_times.BlockingTime.{BlockingTime}
use Rattle.rail_capacity.specs.declared.bounds.TrainBound.{TrainBound}
use Rattle.rail_capacity.specs.FirstBounds.{AreFirstBounds}
use Rattle.rail_capacity.proofs.Members.{take_next}
use Rattle.rail_capacity.proofs.FirstEntries.{more, length-with_block}
use Rattle.rail_capacity.proofs.first_bounds.enter_all.Goals as goal

pub loop-block-preserved : goal.loop-block-preserved
loop-block-preserved c =
    let blocks : List BlockingTime = c.args.blocks.now in
    let k : ℕ = c.loop-block.block-index in
    let block : BlockingTime = c.block-item.result in
    let old : List TrainBound = c.loop-block.table in
    let within : k < length blocks = c.loop-block-test.true in
    let at : get_or blocks k block ≡ block = sym c.block-item.is in
    let P : BlockingTime → Type 0 = λ s. s.train < length c.args.table.now in
    let known : block.train < length c.args.table.now = subst P at (c.requires.known k block within) in
    let Q : BlockingTime → Type 0 = λ s. c.args.from ≤ s.begin in
    let late : c.args.from ≤ block.begin = subst Q at (c.requires.within k block within) in
    let size : length old ≡ length c.args.table.now = c.loop-block.invariant.size in
    let grown : take (k + 1) blocks ≡ take k blocks ++ block ∷ [] = take_next blocks k block within at in
    let R : List BlockingTime → List TrainBound → Type 0 = λ done rs. AreFirstBounds c.args.from done rs in
    record {
      size = ap (λ (rs : List TrainBound). length rs) c.enter.ensures ∙ length-with_block old block c.args.from ∙ size;
      started = subst (λ (done : List BlockingTime). R done c.enter.new.table) (sym grown)
          (subst (λ (rs : List TrainBound). R (take k blocks ++ block ∷ []) rs) (sym c.enter.ensures)
          (more c.args.from (take k blocks) old block c.loop-block.invariant.started (let low : block.train < length old = omega arith in low) late));
    }
