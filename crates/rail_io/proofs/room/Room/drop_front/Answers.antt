-- The bytes behind the first ones come to the front.
use Rattle.std.proofs.Common.{◌≡◌, ℕ, ◌+◌, ◌-◌, ◌≤◌, List, ◌++◌, length, take, drop, ap, sym, ◌∙◌, arith}
use Rattle.std.proofs.lemmas.Grind.{common_steps}
use Rattle.std.proofs.lemmas.List.{drop-take, length-drop, length-take-le, take_at}
use Rattle.rail_io.proofs.room.Room.drop_front.Goals as goal

front_dropped : (items after rest : List ℕ) (count kept : ℕ) → count ≤ kept → kept ≤ length items → after ≡ take (kept - count) (drop count items) ++ rest → take (kept - count) after ≡ drop count (take kept items)
front_dropped items after rest count kept few fits moved =
    let front : List ℕ = take (kept - count) (drop count items) in
    let long : length front ≡ kept - count = length-take-le (kept - count) (drop count items) (rw length-drop (omega arith)) in
    let all : count + (kept - count) ≡ kept = omega arith in
    ap (take (kept - count)) moved ∙ take_at front rest (kept - count) long
    ∙ sym (drop-take count (kept - count) items) ∙ ap (λ (n : ℕ). drop count (take n items)) all

pub returns-clause-kept : goal.returns-clause-kept
returns-clause-kept c =
    front_dropped c.args.self.now.bytes.items c.copy_within.new.self.items _ c.args.count c.args.self.now.kept
    (grind (arith, common_steps)) (grind (arith, common_steps)) c.copy_within.ensures.items
