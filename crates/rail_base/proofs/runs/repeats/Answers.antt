use Rattle.std.proofs.Common.{rules, ◌≡◌, ℕ, ◌<◌, ◌≤◌, get_or, length, nat_eq, true, false, sym, List, arith, ◌∙◌}
use Rattle.std.proofs.lemmas.List.{get_or_default}
use Rattle.std.proofs.lemmas.List.Sums.{prefix_len_is}
use Rattle.rail_base.proofs.runs.repeats.Goals as goal

pub returns-else-eq-clause-count : goal.returns-else-eq-clause-count
returns-else-eq-clause-count c =
    let list : List ℕ = c.args.list.now in
    let t : ℕ = c.args.train in
    let n = c.loop-count-2.count in
    let same : (k : ℕ) → k < n → nat_eq t (get_or list k 0) ≡ true = λ k below. search (rules, c.loop-count-2.invariant.same k below) in
    let stops : n < length list → nat_eq t (get_or list n 0) ≡ false = λ below.
    let read : get_or list n 0 ≡ c.index-list-count.result = get_or_default list n 0 c.index-list-count.result below ∙ sym c.index-list-count.is in
    search (rules, read) in
    sym (prefix_len_is (nat_eq t) list n 0 c.loop-count-2.invariant.bound same stops)

pub returns-after-loop-count-2-clause-count : goal.returns-after-loop-count-2-clause-count
returns-after-loop-count-2-clause-count c =
    let list : List ℕ = c.args.list.now in
    let t : ℕ = c.args.train in
    let n = c.loop-count-2.count in
    let same : (k : ℕ) → k < n → nat_eq t (get_or list k 0) ≡ true = λ k below. search (rules, c.loop-count-2.invariant.same k below) in
    let stops : n < length list → nat_eq t (get_or list n 0) ≡ false = λ below. absurd (omega (arith, below, c.loop-count-2-test.false)) in
    sym (prefix_len_is (nat_eq t) list n 0 c.loop-count-2.invariant.bound same stops)
