use Rattle.std.proofs.Common.{rules, ◌≡◌, ℕ, ◌-◌, ◌≤◌, length, true, false, List, take, drop, sym, subst, nat_lt, nat_le}
use Rattle.std.specs.List.Sorted.{IsPartitionPoint, IsNonDecreasingBy}
use Rattle.std.proofs.lemmas.List.Sorted.{IsPartitionPoint-from_clause, IsPartitionedBy-leb, IsPartitionedBy-ltb, IsNonDecreasingBy-drop}
use Rattle.std.proofs.lemmas.List.{take_rest}
use Rattle.rail_capacity.specs.declared.gaps.Gap.{Gap}
use Rattle.rail_capacity.specs.Bounds.{AreBehind}
use Rattle.rail_capacity.proofs.GapRanges.{parted}
use Rattle.rail_capacity.proofs.bounds.gaps_behind.Goals as goal

pub returns : goal.returns
returns c =
    let gaps : List Gap = c.args.gaps.now in
    let t : ℕ = c.args.train in
    let first : ℕ = c.partition_point-first.result in
    let rest : List Gap = take (length gaps - first) (drop first gaps) in
    let same : rest ≡ drop first gaps = take_rest gaps first in
    let low : IsPartitionPoint (λ (y : Gap). nat_lt y.before t ≡ true) (λ (y : Gap). nat_lt y.before t ≡ false) gaps first =
    IsPartitionPoint-from_clause (λ (gap : Gap). nat_lt gap.before t) _ _ c.partition_point-first.ensures.partitioned (IsPartitionedBy-ltb (λ (gap : Gap). gap.before) gaps t c.requires) (λ a r q k. search rules) in
    let rises : IsNonDecreasingBy (λ (gap : Gap). gap.before) rest =
    let P : List Gap → Type 0 = λ xs. IsNonDecreasingBy (λ (gap : Gap). gap.before) xs in
    subst P (sym same) (IsNonDecreasingBy-drop (λ (gap : Gap). gap.before) first gaps c.requires) in
    let high : IsPartitionPoint (λ (y : Gap). nat_le y.before t ≡ true) (λ (y : Gap). nat_le y.before t ≡ false) rest c.partition_point-count.result =
    IsPartitionPoint-from_clause (λ (gap : Gap). nat_le gap.before t) _ _ c.partition_point-count.ensures.partitioned (IsPartitionedBy-leb (λ (gap : Gap). gap.before) rest t rises) (λ a r q k. search rules) in
    let P : List Gap → Type 0 = λ xs. c.partition_point-count.result ≤ length xs in
    let Q : List Gap → Type 0 = λ xs. IsPartitionPoint (λ (y : Gap). nat_le y.before t ≡ true) (λ (y : Gap). nat_le y.before t ≡ false) xs c.partition_point-count.result in
    let R : List Gap → Type 0 = λ xs. AreBehind gaps t (take c.partition_point-count.result xs) in
    subst R (sym same) (parted gaps t first c.partition_point-count.result c.partition_point-first.ensures.bound low (subst P same c.partition_point-count.ensures.bound) (subst Q same high))
