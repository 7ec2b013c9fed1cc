use Rattle.std.proofs.Common.{◌≡◌, length, List, take, sym, ap, ◌∙◌, arith}
use Rattle.std.specs.List.{Contains, fold}
use Rattle.rail_capacity.specs.declared.gaps.Gap.{Gap}
use Rattle.rail_capacity.specs.declared.bounds.TrainBound.{TrainBound}
use Rattle.rail_capacity.specs.Bounds.{tighter_table}
use Rattle.rail_capacity.proofs.TableSizes.{length-fold_tighter_table}
use Rattle.rail_capacity.proofs.bounds.tighten_all.Goals as goal

same_length : (table initial : List TrainBound) (gaps : List Gap) → table ≡ fold tighter_table initial gaps → length table ≡ length initial
same_length table initial gaps is = ap (λ (rs : List TrainBound). length rs) is ∙ length-fold_tighter_table gaps initial

pub tighten-requires-clause-before : goal.tighten-requires-clause-before
tighten-requires-clause-before c =
    let same = same_length c.loop-gap.table c.args.table.now (take c.loop-gap.gap-index c.args.gaps.now) c.loop-gap.invariant.tightened_by in
    let here : Contains c.args.gaps.now c.gap-item.result = (c.loop-gap.gap-index, c.loop-gap-test.true, sym c.gap-item.is) in
    let low = c.requires.before c.gap-item.result here in
    omega arith

pub tighten-requires-clause-after : goal.tighten-requires-clause-after
tighten-requires-clause-after c =
    let same = same_length c.loop-gap.table c.args.table.now (take c.loop-gap.gap-index c.args.gaps.now) c.loop-gap.invariant.tightened_by in
    let here : Contains c.args.gaps.now c.gap-item.result = (c.loop-gap.gap-index, c.loop-gap-test.true, sym c.gap-item.is) in
    let low = c.requires.after c.gap-item.result here in
    omega arith
