use Rattle.std.proofs.Common.{◌≡◌, ℕ, ◌&&◌, ◌==◌, nat_le, nat_lt, Bool, List, map, sym, ap, ◌∙◌, subst, Result, Ok, Err, Vec, Global, IfOk}
use Rattle.std.specs.List.Sorted.{IsPermutation, IsNonDecreasing}
use Rattle.std.proofs.lemmas.List.Elements.{filter_agree}
use Rattle.std.proofs.lemmas.List.Sorted.{IsNonDecreasingBy-from_sort, list_any-IsPermutation}
use Rattle.rail_base.specs.declared.intervals.Interval.{Interval}
use Rattle.rail_base.specs.declared.refusals.OutOfMemory.{OutOfMemory}
use Rattle.rail_capacity.specs.declared.blocking_times.BlockingTime.{BlockingTime}
use Rattle.rail_capacity.specs.declared.compression.Window.{Window}
use Rattle.rail_capacity.specs.BlockingTimes.{is_taken, block_of, taken_blocks}
use Rattle.rail_capacity.proofs.blocking_times.taken_blocks.Goals as goal

pub blocks_on-requires : goal.blocks_on-requires
blocks_on-requires c =
    let P : List ℕ → Type 0 = λ xs. IsNonDecreasing xs in
    subst P (sym c.deref.ensures.value) (IsNonDecreasingBy-from_sort (λ (n : ℕ). n) c.sort_unstable.new.self.items c.sort_unstable.ensures.sorted)

-- the order of the line is all one
same_taken :
    (intervals : List Interval) (sections sorted : List ℕ) (window : Window) → IsPermutation sections sorted
    → taken_blocks intervals sorted window ≡ taken_blocks intervals sections window
same_taken intervals sections sorted window moves =
    ap (λ (xs : List Interval). map block_of xs) (filter_agree (is_taken sorted window) (is_taken sections window)
    (λ x. ap (λ (b : Bool). b && nat_le window.from x.begin && nat_lt x.begin window.to) (sym (list_any-IsPermutation (λ (section : ℕ). section == x.section) sections sorted moves))) intervals)

as_result :
    (r : Result (Vec BlockingTime Global) OutOfMemory) (some others : List BlockingTime) → some ≡ others
    → IfOk r (λ blocks. blocks.items ≡ some) → IfOk r (λ blocks. blocks.items ≡ others)
as_result (Ok blocks) some others same is = is ∙ same
as_result (Err e) some others same is = is

pub returns : goal.returns
returns c =
    let sorted : List ℕ = c.sort_unstable.new.self.items in
    let P : List ℕ → Type 0 = λ xs. IsPermutation xs sorted in
    let moves : IsPermutation c.args.sections.now sorted = subst P c.in_ok-sorted.ensures.items c.sort_unstable.ensures.permutation in
    as_result c.blocks_on.result (taken_blocks c.args.intervals.now c.deref.result.now c.args.window) (taken_blocks c.args.intervals.now c.args.sections.now c.args.window)
    (ap (λ (xs : List ℕ). taken_blocks c.args.intervals.now xs c.args.window) c.deref.ensures.value ∙ same_taken c.args.intervals.now c.args.sections.now sorted c.args.window moves)
    c.blocks_on.ensures
