use Rattle.std.proofs.Common.{◌≡◌, ℕ, ◌≤◌, Bool, true, nat_le, nat_lt, ◌&&◌, ◌==◌, List, [], ◌∷◌, map, sym, ◌∙◌, subst, ⊎_elim}
use Rattle.std.specs.List.{All, Contains, filter, list_any}
use Rattle.std.proofs.lemmas.Bool.{and_parts, leb-true, cases_Bool, cond-true, cond-false}
use Rattle.std.proofs.lemmas.List.Elements.{All-map, All-weaker, filter_passes}
use Rattle.rail_base.specs.declared.intervals.Interval.{Interval}
use Rattle.rail_capacity.specs.declared.blocking_times.BlockingTime.{BlockingTime}
use Rattle.rail_capacity.specs.declared.compression.Window.{Window}
use Rattle.rail_capacity.specs.BlockingTimes.{block_of, taken_blocks, is_taken}
use Rattle.rail_capacity.specs.BlockingTimes.{AreConflictFree}
use Rattle.rail_capacity.proofs.Members.{among, at_head, in_rest, in_none}
use Rattle.rail_capacity.proofs.Conflicts.{any_two}
use Rattle.rail_capacity.proofs.compression.compress.Goals as goal

-- what is taken is among all
among_all : (p : Interval → Bool) (xs : List Interval) (y : BlockingTime) → Contains (map block_of (filter p xs)) y → Contains (map block_of xs) y
among_all p [] y has = in_none y has
among_all p (x ∷ xs) y has =
    let P : List Interval → Type 0 = λ zs. Contains (map block_of zs) y in
    ⊎_elim
    (λ (is : p x ≡ true). ⊎_elim
    (λ (same : block_of x ≡ y). at_head (block_of x) (map block_of xs) y same)
    (λ (later : Contains (map block_of (filter p xs)) y). in_rest (block_of x) (map block_of xs) y (among_all p xs y later))
    (among (block_of x) (map block_of (filter p xs)) y (subst P (cond-true (p x) (x ∷ filter p xs) (filter p xs) is) has)))
    (λ is. in_rest (block_of x) (map block_of xs) y (among_all p xs y (subst P (cond-false (p x) (x ∷ filter p xs) (filter p xs) is) has)))
    (cases_Bool (p x))

apart_taken :
    (intervals : List Interval) (sections : List ℕ) (window : Window) → AreConflictFree (map block_of intervals)
    → AreConflictFree (taken_blocks intervals sections window)
apart_taken intervals sections window apart =
    let all : (y : BlockingTime) → Contains (taken_blocks intervals sections window) y → Contains (map block_of intervals) y = among_all (is_taken sections window) intervals in
    record {
      positive = λ x has. apart.positive x (all x has);
      below = λ x has. apart.below x (all x has);
      apart = λ x y has too same. apart.apart x y (all x has) (all y too) same;
    }

begins_within :
    (intervals : List Interval) (sections : List ℕ) (window : Window)
    → All (λ (block : BlockingTime). window.from ≤ block.begin) (taken_blocks intervals sections window)
begins_within intervals sections window =
    All-map (λ (block : BlockingTime). window.from ≤ block.begin) block_of (filter (is_taken sections window) intervals)
    (All-weaker (λ (x : Interval). is_taken sections window x ≡ true) (λ (x : Interval). window.from ≤ x.begin)
    (λ x is. leb-true window.from x.begin (and_parts (list_any (λ section. section == x.section) sections) (nat_le window.from x.begin) (and_parts (list_any (λ section. section == x.section) sections && nat_le window.from x.begin) (nat_lt x.begin window.to) is).0).1)
    (filter (is_taken sections window) intervals) (filter_passes (is_taken sections window) intervals))

pub compress_blocks-requires-clause-conflict_free : goal.compress_blocks-requires-clause-conflict_free
compress_blocks-requires-clause-conflict_free c =
    let P : List BlockingTime → Type 0 = λ xs. AreConflictFree xs in
    subst P (sym (c.deref.ensures.value ∙ c.in_ok-blocks.ensures)) (apart_taken c.args.intervals.now c.args.sections.now c.args.window (any_two (map block_of c.args.intervals.now) c.requires))

pub compress_blocks-requires-clause-within : goal.compress_blocks-requires-clause-within
compress_blocks-requires-clause-within c =
    let P : List BlockingTime → Type 0 = λ xs. All (λ (block : BlockingTime). c.args.window.from ≤ block.begin) xs in
    subst P (sym (c.deref.ensures.value ∙ c.in_ok-blocks.ensures)) (begins_within c.args.intervals.now c.args.sections.now c.args.window)
