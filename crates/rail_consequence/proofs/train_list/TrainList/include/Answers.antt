use Rattle.std.proofs.Common.{◌≡◌, ◌≢◌, ℕ, ◌<◌, ◌≤◌, true, not, ◌||◌, ◌==◌, eqb, List, get_or, length, vec_capacity, sym, ap, ◌∙◌, subst, arith}
use Rattle.std.proofs.lemmas.Bool.{eqb-false, not-true}
use Rattle.std.proofs.lemmas.Grind.{get_or_default_zero}
use Rattle.std.specs.List.{All}
use Rattle.std.specs.List.Sorted.{IsStrictlyIncreasing}
use Rattle.rail_base.specs.declared.limits.TheConstants.{TRAINS}
use Rattle.rail_rules.specs.Numbers.{is_in}
use Rattle.rail_sets.specs.TrainSets.{has_train}
use Rattle.rail_consequence.proofs.Rising.{IsPositionFor, position_from, in_insert, rising_insert, below_insert, room_for_one}
use Rattle.rail_consequence.proofs.train_list.TrainList.include.Goals as goal
use Rattle.rail_consequence.proofs.train_list.TrainList.include.Goals.{After-insert, then-position-len-via-then-position-len, then-position-len-via-else-position-len+then-ne}

-- the number that stands there is another one
other_read : (xs : List ℕ) (t p x : ℕ) → p < length xs → x ≡ get_or xs p x → true ≡ not (eqb x t) → get_or xs p 0 ≢ t
other_read xs t p x lt read other here = eqb-false x t (not-true (eqb x t) (sym other)) (read ∙ get_or_default_zero xs p x lt ∙ here)

position_here : (c : After-insert) → IsPositionFor c.self.inside.trains.items c.args.train c.position_in-position.result
position_here c =
    let xs : List ℕ = c.self.inside.trains.items in
    let p = c.position_in-position.result in
    let t = c.args.train in
    let P : List ℕ → Type 0 = λ ys. (k d : ℕ) → k < p → get_or ys k d < t in
    let Q : List ℕ → Type 0 = λ ys. (d : ℕ) → p < length ys → t ≤ get_or ys p d in
    let same = c.deref.ensures.value in
    let other : p < length xs → get_or xs p 0 ≢ t = λ lt. elim c.then-position-len.branch [
      | then-position-len-via-then-position-len w ↦ absurd (omega (arith, w.if-position-len.true, c.len.ensures, lt))
      | then-position-len-via-else-position-len+then-ne w ↦ other_read xs t p w.index.result.now lt w.index.ensures (sym w.if-ne.true ∙ w.ne.ensures)
    ] in
    let here : Q xs = subst Q same c.position_in-position.ensures.here in
    position_from xs t p c.self.invariant.0 (omega (arith, c.position_in-position.ensures.bound, ap length same)) (subst P same c.position_in-position.ensures.front)
    (λ d lt. omega (arith, here d lt, other lt, get_or_default_zero xs p d lt))

pub unwrap-requires : goal.unwrap-requires
unwrap-requires c =
    let xs : List ℕ = c.self.inside.trains.items in
    let room = room_for_one xs c.args.train c.position_in-position.result (position_here c) TRAINS c.requires c.self.invariant.0 c.self.invariant.1 in
    c.insert.ensures.succeeds (omega (arith, room, c.self.invariant.2))

pub invariant_of-self : goal.invariant_of-self
invariant_of-self c =
    let xs : List ℕ = c.self.inside.trains.items in
    let t = c.args.train in
    let p = c.position_in-position.result in
    let position = position_here (goal.at.invariant_of-self c).After-insert in
    let items = rw c.unwrap.ensures at c.insert.ensures.items in
    let P : List ℕ → Type 0 = λ ys. IsStrictlyIncreasing ys × All (λ u. u < TRAINS) ys × (vec_capacity c.insert.new.self ≡ TRAINS) × ((u : ℕ) → has_train c.insert-then-position-len.new.self u ≡ is_in u ys) in
    let room = room_for_one xs t p position TRAINS c.requires c.self.invariant.0 c.self.invariant.1 in
    subst P (sym items)
    (rising_insert xs t p position c.self.invariant.0, below_insert xs t p position TRAINS c.requires c.self.invariant.1, (c.insert.ensures.in_place (omega (arith, room, c.self.invariant.2))).1.0 ∙ c.self.invariant.2, λ u. c.insert-then-position-len.ensures u ∙ ap (λ b. (u == t) || b) (c.self.invariant.3 u) ∙ sym (in_insert xs t p position u))

pub returns-then-position-len : goal.returns-then-position-len
returns-then-position-len c = λ u.
    let xs : List ℕ = c.self.inside.trains.items in
    let t = c.args.train in
    let p = c.position_in-position.result in
    let position = position_here (goal.at.returns-then-position-len c).After-insert in
    let items = rw c.unwrap.ensures at c.insert.ensures.items in
    ap (is_in u) items ∙ in_insert xs t p position u ∙ ap (λ ys. (u == t) || is_in u ys) c.self.view_is
