use Rattle.std.proofs.Common.{◌≡◌, ◌≢◌, ℕ, ◌<◌, ◌≤◌, false, not, ◌&&◌, ◌==◌, eqb, List, get_or, length, vec_capacity, sym, ap, ◌∙◌, subst, arith}
use Rattle.std.proofs.lemmas.Bool.{eqb-true, eq-eqb, true≢false}
use Rattle.std.proofs.lemmas.Grind.{get_or_default_zero}
use Rattle.std.specs.List.{All}
use Rattle.std.specs.List.Sorted.{IsStrictlyIncreasing}
use Rattle.rail_base.specs.declared.limits.TheConstants.{TRAINS}
use Rattle.rail_rules.specs.Numbers.{is_in}
use Rattle.rail_sets.specs.TrainSets.{has_train}
use Rattle.rail_consequence.proofs.Rising.{IsPositionFor, position_from, not_placed, in_absent, in_remove, rising_remove, below_remove}
use Rattle.rail_consequence.proofs.train_list.TrainList.exclude.Goals as goal
use Rattle.rail_consequence.proofs.train_list.TrainList.exclude.Goals.{else-position-len-via-then-position-len+else-eq, else-position-len-via-else-position-len}

pub invariant_of-self : goal.invariant_of-self
invariant_of-self c =
    let xs : List ℕ = c.self.inside.trains.items in
    let t = c.args.train in
    let p = c.position_in-position.result in
    let lt : p < length xs = omega (arith, c.if-position-len.true, c.len.ensures) in
    let here : get_or xs p 0 ≡ t = sym (get_or_default_zero xs p c.index.result.now lt) ∙ sym c.index.ensures ∙ eqb-true c.index.result.now t (sym c.eq.ensures ∙ c.if-eq.true) in
    let P : List ℕ → Type 0 = λ ys. IsStrictlyIncreasing ys × All (λ u. u < TRAINS) ys × (vec_capacity c.remove.new.self ≡ TRAINS) × ((u : ℕ) → has_train c.remove-then-eq.new.self u ≡ is_in u ys) in
    subst P (sym c.remove.ensures.items) (
      rising_remove xs t p lt c.self.invariant.0,
      below_remove xs t p lt TRAINS c.self.invariant.1,
      c.remove.ensures.capacity ∙ c.self.invariant.2,
      λ u. c.remove-then-eq.ensures.left u ∙ ap (λ b. not (u == t) && b) (c.self.invariant.3 u) ∙ sym (in_remove xs t p lt c.self.invariant.0 here u),
    )

pub returns-then-eq : goal.returns-then-eq
returns-then-eq c = λ u.
    let xs : List ℕ = c.self.inside.trains.items in
    let t = c.args.train in
    let p = c.position_in-position.result in
    let lt : p < length xs = omega (arith, c.if-position-len.true, c.len.ensures) in
    let here : get_or xs p 0 ≡ t = sym (get_or_default_zero xs p c.index.result.now lt) ∙ sym c.index.ensures ∙ eqb-true c.index.result.now t (sym c.eq.ensures ∙ c.if-eq.true) in
    ap (is_in u) c.remove.ensures.items ∙ in_remove xs t p lt c.self.invariant.0 here u ∙ ap (λ ys. not (u == t) && is_in u ys) c.self.view_is

-- the number that stands there is another one
other_read : (xs : List ℕ) (t p x : ℕ) → p < length xs → x ≡ get_or xs p x → eqb x t ≡ false → get_or xs p 0 ≢ t
other_read xs t p x lt read other here = true≢false (sym (eq-eqb x t (read ∙ get_or_default_zero xs p x lt ∙ here)) ∙ other)

pub returns-else-position-len : goal.returns-else-position-len
returns-else-position-len c =
    let xs : List ℕ = c.self.inside.trains.items in
    let t = c.args.train in
    let p = c.position_in-position.result in
    let P : List ℕ → Type 0 = λ ys. (k d : ℕ) → k < p → get_or ys k d < t in
    let Q : List ℕ → Type 0 = λ ys. (d : ℕ) → p < length ys → t ≤ get_or ys p d in
    let R : List ℕ → Type 0 = λ ys. (u : ℕ) → is_in u ys ≡ (not (u == t) && is_in u ys) in
    let same = c.deref.ensures.value in
    let other : p < length xs → get_or xs p 0 ≢ t = λ lt. elim c.else-position-len.branch [
      | else-position-len-via-then-position-len+else-eq w ↦ other_read xs t p w.index.result.now lt w.index.ensures (sym w.eq.ensures ∙ w.if-eq.false)
      | else-position-len-via-else-position-len w ↦ absurd (omega (arith, w.if-position-len.false, c.len.ensures, lt))
    ] in
    let here : Q xs = subst Q same c.position_in-position.ensures.here in
    let position : IsPositionFor xs t p = position_from xs t p c.self.invariant.0 (omega (arith, c.position_in-position.ensures.bound, ap length same)) (subst P same c.position_in-position.ensures.front)
    (λ d lt. omega (arith, here d lt, other lt, get_or_default_zero xs p d lt)) in
    subst R c.self.view_is (in_absent xs t (not_placed xs t p position))
