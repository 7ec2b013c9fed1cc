-- The gaps behind a train stand together.
use Rattle.std.proofs.Common.{◌≡◌, ℕ, ◌+◌, ◌-◌, ◌<◌, ◌≤◌, length, true, false, List, get_or, take, drop, sym, ap, ◌∙◌, subst, arith, nat_lt, nat_le, ⊎_elim}
use Rattle.std.specs.List.Sorted.{IsPartitionPoint}
use Rattle.std.proofs.lemmas.Bool.{cases_lt, ltb-true, ltb-false, leb-true, leb-false}
use Rattle.std.proofs.lemmas.List.{get_or-take, get_or-drop, length-take, length-drop}
use Rattle.rail_capacity.specs.declared.gaps.Gap.{Gap}
use Rattle.rail_capacity.specs.Bounds.{AreBehind}

-- what stands between the two places of a search
pub parted :
    (gaps : List Gap) (t first count : ℕ) → first ≤ length gaps
    → IsPartitionPoint (λ (y : Gap). nat_lt y.before t ≡ true) (λ (y : Gap). nat_lt y.before t ≡ false) gaps first
    → count ≤ length (drop first gaps)
    → IsPartitionPoint (λ (y : Gap). nat_le y.before t ≡ true) (λ (y : Gap). nat_le y.before t ≡ false) (drop first gaps) count
    → AreBehind gaps t (take count (drop first gaps))
parted gaps t first count within low short high = record {
  only = λ gap has.
      let k : ℕ = has.0 in
      let cut = length-take count (drop first gaps) in
      let inside : k < length (take count (drop first gaps)) = has.1 in
      let under : k < count = omega arith in
      let long = length-drop first gaps in
      let at_rest : get_or (drop first gaps) k gap ≡ gap = sym (get_or-take count (drop first gaps) k gap under) ∙ has.2 in
      let at_gaps : get_or gaps (first + k) gap ≡ gap = sym (get_or-drop first gaps k gap) ∙ at_rest in
      let most : gap.before ≤ t = leb-true gap.before t (let P : Gap → Type 0 = λ (g : Gap). nat_le g.before t ≡ true in subst P at_rest (high.0 k gap (omega arith) under)) in
      let least : t ≤ gap.before = ltb-false gap.before t (let P : Gap → Type 0 = λ (g : Gap). nat_lt g.before t ≡ false in subst P at_gaps (low.1 (first + k) gap (omega arith) (omega arith))) in
      ((first + k, (let e : first + k < length gaps = omega arith in e), at_gaps), (let e : gap.before ≡ t = omega arith in e));
  all = λ gap has is.
      let k : ℕ = has.0 in
      let inside : k < length gaps = has.1 in
      let long = length-drop first gaps in
      let cut = length-take count (drop first gaps) in
      let from_first : first ≤ k = ⊎_elim
      (λ (early : k < first). let under : gap.before < t = ltb-true gap.before t (let P : Gap → Type 0 = λ (g : Gap). nat_lt g.before t ≡ true in subst P has.2 (low.0 k gap (omega arith) early)) in absurd (omega arith))
      (λ (late : first ≤ k). late)
      (cases_lt k first) in
      let j : ℕ = k - first in
      let place : first + j ≡ k = omega arith in
      let at_rest : get_or (drop first gaps) j gap ≡ gap = get_or-drop first gaps j gap ∙ ap (λ n. get_or gaps n gap) place ∙ has.2 in
      let to_count : j < count = ⊎_elim
      (λ (early : j < count). early)
      (λ (late : count ≤ j). let over : t < gap.before = leb-false gap.before t (let P : Gap → Type 0 = λ (g : Gap). nat_le g.before t ≡ false in subst P at_rest (high.1 j gap late (omega arith))) in absurd (omega arith))
      (cases_lt j count) in
      (j, (let e : j < length (take count (drop first gaps)) = omega arith in e), get_or-take count (drop first gaps) j gap to_count ∙ at_rest);
}
