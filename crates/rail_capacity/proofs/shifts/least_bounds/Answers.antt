use Rattle.std.proofs.Common.{◌≡◌, ℕ, length, List, take, drop, ◌++◌, sym, ap, subst, arith}
use Rattle.std.proofs.lemmas.List.{take_at}
use Rattle.rail_capacity.specs.declared.blocking_times.BlockingTime.{BlockingTime}
use Rattle.rail_capacity.specs.declared.gaps.Gap.{Gap}
use Rattle.rail_capacity.specs.declared.bounds.TrainBound.{TrainBound}
use Rattle.rail_capacity.specs.Gaps.{AreGaps}
use Rattle.rail_capacity.specs.Bounds.{AreOver, AreSettled, AreBounds, AllKept}
use Rattle.rail_capacity.specs.FirstBounds.{AreFirstBounds}
use Rattle.rail_capacity.specs.LeastBounds.{AreLeastBounds}
use Rattle.rail_capacity.proofs.LeastShifts.{first_bounds, first_kept, gaps_known}
use Rattle.rail_capacity.proofs.shifts.least_bounds.Goals as goal

pub settle-requires-clause-over : goal.settle-requires-clause-over
settle-requires-clause-over c =
    let table : List TrainBound = c.in_ok-table.table.items in
    let gaps : List Gap = c.in_ok-gaps.gaps.items in
    let P : ℕ → List Gap → Type 0 = λ n gs. AreOver n gs in
    subst (λ (n : ℕ). P n c.deref.result.now) (sym (ap (λ (rs : List TrainBound). length rs) c.deref_mut.ensures.value))
    (subst (λ (gs : List Gap). P (length table) gs) (sym c.deref.ensures.value)
    (gaps_known c.args.blocks.now (length table) gaps c.in_ok-table.ensures.known c.in_ok-gaps.ensures))

pub returns : goal.returns
returns c =
    let blocks : List BlockingTime = c.args.blocks.now in
    let from : ℕ = c.args.from in
    let old : List TrainBound = c.in_ok-table.table.items in
    let new : List TrainBound = c.settle.new.table in
    let gaps : List Gap = c.in_ok-gaps.gaps.items in
    let are : AreGaps blocks gaps = c.in_ok-gaps.ensures in
    let started : AreFirstBounds from blocks old = c.in_ok-table.ensures.first in
    let P : List Gap → List TrainBound → Type 0 = λ gs rs. AreBounds blocks from rs × AllKept gs rs × AreGaps blocks gs in
    let before : P c.deref.result.now c.deref_mut.result.now =
    subst (λ (rs : List TrainBound). P c.deref.result.now rs) (sym c.deref_mut.ensures.value)
    (subst (λ (gs : List Gap). P gs old) (sym c.deref.ensures.value)
    (first_bounds blocks from old c.in_ok-table.ensures.known started, first_kept blocks from old gaps started, are)) in
    let settled : AreSettled blocks from c.deref.result.now new = c.settle.ensures blocks from before.2 before.0 before.1 in
    let Q : List Gap → Type 0 = λ gs. AreSettled blocks from gs new in
    let n : ℕ = c.in_ok-table.table.len in
    let size : length new ≡ n = (let a = c.settle.auto.table in let b = c.deref_mut.ensures.len in omega arith) in
    let shown : take n (new ++ drop (length new) old) ≡ new = take_at new (drop (length new) old) n size in
    let R : List TrainBound → Type 0 = λ rs. AreLeastBounds blocks from rs in
    subst R (sym shown) (record {
      small = (let a = c.deref_mut.ensures.value in let b = ap (λ (rs : List TrainBound). length rs) a in let d = c.deref_mut.ensures.len in let e = c.in_ok-table.ensures.small in omega arith);
      gaps = gaps;
      are = are;
      settled = subst Q c.deref.ensures.value settled;
    })
