use Rattle.std.proofs.Common.{◌≡◌, ℕ, suc, ◌+◌, ◌<◌, Bool, ◌&&◌, eqb, true, false, not, List, length, sym, ap, ◌∙◌, arith}
use Rattle.std.proofs.lemmas.Bool.{ne_eqb, or_from}
use Rattle.rail_rules.specs.Analysis.{is_safe, needs_later}
use Rattle.rail_rules.specs.Moves.{Moves, stand}
use Rattle.rail_rules.specs.Numbers.{any_below}
use Rattle.rail_rules.proofs.CallerLemmas.{any_below_from}
use Rattle.rail_place.specs.Tables.{moves_in}
use Rattle.rail_place.proofs.CallerLemmas.{made_long}
use Rattle.rail_list.proofs.needers.is_leg_safe.Goals as goal

-- a leg that doesn't end out is free where another train needs later what the train then stands on
free_leg : (plan : Moves) (s sections : List ℕ) (t p u : ℕ) → (p ≡ plan.moves t → ⊥) → sections ≡ stand plan t p → u < length s
    → (not (eqb u t) && needs_later plan s sections u) ≡ true → is_safe plan s (record { train = t; place = p }) ≡ false
free_leg plan s sections t p u more standing lt needed =
    let test : ℕ → Bool = λ v. not (eqb v t) && needs_later plan s (stand plan t p) v in
    or_from (eqb p (plan.moves t)) (not (any_below test (length s))) (ne_eqb p (plan.moves t) more)
    (ap not (any_below_from test (length s) u lt (ap (λ xs. not (eqb u t) && needs_later plan s xs u) (sym standing) ∙ needed)))

pub returns-then-does_other_need : goal.returns-then-does_other_need
returns-then-does_other_need c =
    let long = made_long c.args.moves.now c.args.places.now c.requires.made in
    sym (free_leg (moves_in c.args.moves.now) c.args.places.now.positions c.stand-sections.result.now c.args.train c.args.place c.last.inside.0
    (λ out. c.if-place-places.false (out ∙ sym c.places.ensures)) c.stand-sections.ensures.sections
    (omega (arith, long, c.if-last-trains.true, c.trains.ensures.count))
    (sym c.does_other_need.ensures ∙ c.if-does_other_need.true))

pub returns-then-does_other_need-2 : goal.returns-then-does_other_need-2
returns-then-does_other_need-2 c =
    let long = made_long c.args.moves.now c.args.places.now c.requires.made in
    sym (free_leg (moves_in c.args.moves.now) c.args.places.now.positions c.stand-sections.result.now c.args.train c.args.place c.loop-number.number
    (λ out. c.if-place-places.false (out ∙ sym c.places.ensures)) c.stand-sections.ensures.sections
    (omega (arith, long, c.loop-number-test.true, c.trains-number-end.ensures.count))
    (sym c.does_other_need-in-loop-number.ensures ∙ c.if-does_other_need-2.true))

pub loop-number-preserved : goal.loop-number-preserved
loop-number-preserved c =
    let plan : Moves = moves_in c.args.moves.now in
    let s : List ℕ = c.args.places.now.positions in
    let t : ℕ = c.args.train in
    let n : ℕ = c.loop-number.number in
    let test : ℕ → Bool = λ u. not (eqb u t) && needs_later plan s (stand plan t c.args.place) u in
    let next : n + 1 ≡ suc n = omega arith in
    ap (any_below test) next
    ∙ or_from (any_below test n) (test n) c.loop-number.invariant
    (ap (λ xs. not (eqb n t) && needs_later plan s xs n) (sym c.stand-sections.ensures.sections)
    ∙ sym c.does_other_need-in-loop-number.ensures ∙ c.if-does_other_need-2.false)
