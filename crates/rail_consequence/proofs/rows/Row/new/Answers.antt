use Rattle.std.proofs.Common.{◌≡◌, ℕ, ◌+◌, ◌-◌, List, length, ap, ◌∙◌, sym, subst, arith}
use Rattle.rail_rules.specs.Moves.{Moves}
use Rattle.rail_place.specs.Tables.{moves_in}
use Rattle.rail_sets.proofs.CallerLemmas.{none_in_zeros}
use Rattle.rail_consequence.specs.Needs.{needs_from}
use Rattle.rail_consequence.specs.Needs.{IsPlaceSets, IsSetRow}
use Rattle.rail_consequence.specs.declared.rows.PlaceSets.{PlaceSets}
use Rattle.rail_consequence.proofs.SetLemmas.{IsRowBack, needs_past, row_more_sets, row_reversed}
use Rattle.rail_consequence.proofs.rows.Row.new.Goals as goal

pub loop-back-init : goal.loop-back-init
loop-back-init c =
    let plan : Moves = moves_in c.args.moves.now in
    let t = c.args.train in
    record {
      row = record { long = ap length c.in_ok-places.ensures.items; told = λ i lt. absurd (omega (arith, lt)) };
      later = λ x. none_in_zeros 8 x ∙ sym (needs_past plan t (c.places-last.result + 1 - 0) x (omega (arith, c.places-last.ensures)));
      room = omega (arith, c.in_ok-places.ensures.exact);
    }

pub loop-back-preserved : goal.loop-back-preserved
loop-back-preserved c =
    let plan : Moves = moves_in c.args.moves.now in
    let t = c.args.train in
    let back : ℕ = c.loop-back.back in
    let sets : PlaceSets = c.new-sets.result in
    let P : ℕ → Type 0 = λ p. IsPlaceSets plan t p sets in
    let at : c.places-last.result - back ≡ plan.moves t - back = ap (λ k. k - back) c.places-last.ensures in
    let Q : List PlaceSets → Type 0 = λ r. IsRowBack plan t (back + 1) r in
    let place : c.places-last.result - back ≡ c.places-last.result + 1 - (back + 1) = omega arith in
    record {
      row = subst Q (sym c.push_reserved.ensures.items) (row_more_sets plan t back c.loop-back.places.items sets c.loop-back.invariant.row (subst P at c.new-sets.ensures));
      later = λ x. c.new-sets.ensures.rest x ∙ ap (λ p. needs_from plan t p x) place;
      room = omega (arith, c.push_reserved.ensures.capacity, c.loop-back.invariant.room);
    }

pub returns : goal.returns
returns c =
    let plan : Moves = moves_in c.args.moves.now in
    let t = c.args.train in
    let P : List PlaceSets → Type 0 = λ r. IsSetRow plan t (plan.moves t + 1) r in
    subst P (sym c.reverse.ensures.items) (row_reversed plan t c.loop-back.back c.loop-back.places.items (omega (arith, c.loop-back-test.false, c.places-last.ensures)) c.loop-back.invariant.row)
