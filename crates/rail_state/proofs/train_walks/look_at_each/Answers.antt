use Rattle.std.proofs.Common.{◌≡◌, ◌≢◌, ◌<◌, ℕ, true, Option, Some, cond, List, length, set, ap, sym, subst, refl, ◌∙◌, arith}
use Rattle.std.proofs.lemmas.Bool.{and_parts, cond-false, cond-true}
use Rattle.std.proofs.lemmas.List.{get_or-set_other}
use Rattle.rail_state.specs.declared.train.TrainState.{TrainState}
use Rattle.rail_sets.specs.declared.train_set.TrainSet.{TrainSet}
use Rattle.rail_state.specs.TrainStates.{bar_by, is_untried, looked_at, no_state, state_of}
use Rattle.rail_state.specs.TrainSearches.{earlier}
use Rattle.rail_state.proofs.First.{first_more, first_of_all, looked_not}
use Rattle.rail_state.proofs.Turned.{IsTurned, left_known, passes_left, set_passes, turned_all, turned_at, turned_none, turned_not}
use Rattle.rail_state.proofs.train_walks.look_at_each.Goals as goal

pub loop-train-init : goal.loop-train-init
loop-train-init c = record {
  looked = turned_none (looked_at c.args.plant.now (bar_by c.args.orders.now c.args.holders.now)) c.args.rows.now c.args.sets.now.untried (λ t off.
      looked_not c.args.plant.now (bar_by c.args.orders.now c.args.holders.now) t (state_of c.args.rows.now t) (sym (c.requires.sets.untried t) ∙ off));
  untried = set_passes is_untried c.args.rows.now c.args.sets.now.untried c.requires.sets.untried;
  first = λ t off. sym (c.requires.sets.untried t) ∙ off;
  sets = c.requires.sets;
  blocked = λ are. are;
}

pub look_at-requires-clause-moves : goal.look_at-requires-clause-moves
look_at-requires-clause-moves c =
    let change = looked_at c.args.plant.now (bar_by c.args.orders.now c.args.holders.now) in
    let t : ℕ = c.in-Some.train in
    let before = c.loop-train.invariant in
    let was : state_of c.loop-train.rows t ≡ state_of c.args.rows.now t = turned_not change c.args.rows.now c.loop-train.rows c.loop-train.left t c.in-Some.ensures.was before.looked in
    let untried : is_untried (state_of c.args.rows.now t) ≡ true = before.untried t c.in-Some.ensures.was in
    let within : t < length c.loop-train.rows = left_known is_untried change c.args.rows.now c.loop-train.rows c.loop-train.left t refl before.untried c.in-Some.ensures.was before.looked in
    omega (arith, ap (λ (r : TrainState). r.place) was, c.requires.moves t (omega (arith, within, before.looked.long, c.requires.known)) (and_parts (state_of c.args.rows.now t).waits _ untried).0)

pub look_at-requires-clause-untried : goal.look_at-requires-clause-untried
look_at-requires-clause-untried c =
    let t : ℕ = c.in-Some.train in
    ap is_untried (turned_not (looked_at c.args.plant.now (bar_by c.args.orders.now c.args.holders.now)) c.args.rows.now c.loop-train.rows c.loop-train.left t c.in-Some.ensures.was c.loop-train.invariant.looked)
    ∙ c.loop-train.invariant.untried t c.in-Some.ensures.was

pub returns-clause-looked : goal.returns-clause-looked
returns-clause-looked c =
    turned_all (looked_at c.args.plant.now (bar_by c.args.orders.now c.args.holders.now)) c.args.rows.now c.loop-train.rows c.loop-train.left (c.in_default.ensures.none refl) c.loop-train.invariant.looked

pub returns-clause-first : goal.returns-clause-first
returns-clause-first c = first_of_all c.loop-train.rows c.loop-train.left c.loop-train.first (c.in_default.ensures.none refl) c.loop-train.invariant.first

pub loop-train-preserved-then-look_at : goal.loop-train-preserved-then-look_at
loop-train-preserved-then-look_at c =
    let change = looked_at c.args.plant.now (bar_by c.args.orders.now c.args.holders.now) in
    let before = c.loop-train.invariant in
    let old : List TrainState = c.args.rows.now in
    let rows : List TrainState = c.loop-train.rows in
    let new : List TrainState = c.look_at.new.rows in
    let left : TrainSet = c.loop-train.left in
    let fewer : TrainSet = c.take_first.new.self in
    let first : Option ℕ = c.loop-train.first in
    let t : ℕ = c.in-Some.train in
    let within : t < length rows = left_known is_untried change old rows left t refl before.untried c.in-Some.ensures.was before.looked in
    let new_is : new ≡ set rows t (change t (state_of rows t)) = c.look_at.ensures.rows in
    let others : (u : ℕ) → u ≢ t → state_of new u ≡ state_of rows u = λ u ne. ap (λ (rs : List TrainState). state_of rs u) new_is ∙ get_or-set_other rows t u (change t (state_of rows t)) no_state ne in
    let chosen_is : Some c.earlier.result ≡ cond (is_untried (state_of new t)) (Some (earlier new first t)) first = ap Some c.earlier.ensures ∙ sym (cond-true (is_untried (state_of new t)) (Some (earlier new first t)) first (sym c.look_at.ensures.answer ∙ c.if-look_at.true)) in
    record {
      looked = subst (λ (rs : List TrainState). IsTurned change old rs fewer) (sym new_is) (turned_at left fewer t c.in-Some.ensures.left change old rows within c.in-Some.ensures.was before.looked);
      untried = passes_left left fewer t c.in-Some.ensures.left is_untried old before.untried;
      first = first_more rows new left fewer t first (Some c.earlier.result) c.in-Some.ensures.left c.in-Some.ensures.was others before.first chosen_is;
      sets = c.look_at.ensures.sets before.sets;
      blocked = λ are. c.look_at.ensures.blocked (before.blocked are);
    }

pub loop-train-preserved : goal.loop-train-preserved
loop-train-preserved c =
    let change = looked_at c.args.plant.now (bar_by c.args.orders.now c.args.holders.now) in
    let before = c.loop-train.invariant in
    let old : List TrainState = c.args.rows.now in
    let rows : List TrainState = c.loop-train.rows in
    let new : List TrainState = c.look_at.new.rows in
    let left : TrainSet = c.loop-train.left in
    let fewer : TrainSet = c.take_first.new.self in
    let first : Option ℕ = c.loop-train.first in
    let t : ℕ = c.in-Some.train in
    let within : t < length rows = left_known is_untried change old rows left t refl before.untried c.in-Some.ensures.was before.looked in
    let new_is : new ≡ set rows t (change t (state_of rows t)) = c.look_at.ensures.rows in
    let others : (u : ℕ) → u ≢ t → state_of new u ≡ state_of rows u = λ u ne. ap (λ (rs : List TrainState). state_of rs u) new_is ∙ get_or-set_other rows t u (change t (state_of rows t)) no_state ne in
    let chosen_is : c.loop-train.first ≡ cond (is_untried (state_of new t)) (Some (earlier new first t)) first = sym (cond-false (is_untried (state_of new t)) (Some (earlier new first t)) first (sym c.look_at.ensures.answer ∙ c.if-look_at.false)) in
    record {
      looked = subst (λ (rs : List TrainState). IsTurned change old rs fewer) (sym new_is) (turned_at left fewer t c.in-Some.ensures.left change old rows within c.in-Some.ensures.was before.looked);
      untried = passes_left left fewer t c.in-Some.ensures.left is_untried old before.untried;
      first = first_more rows new left fewer t first (c.loop-train.first) c.in-Some.ensures.left c.in-Some.ensures.was others before.first chosen_is;
      sets = c.look_at.ensures.sets before.sets;
      blocked = λ are. c.look_at.ensures.blocked (before.blocked are);
    }
