use Rattle.std.proofs.Common.{◌≡◌, ◌<◌, ℕ, List, length, get_or, set, refl, sym, ap, subst, ◌∙◌, arith}
use Rattle.std.proofs.lemmas.List.{get_or_default, set-get_or}
use Rattle.rail_rules.specs.Plant.{moves}
use Rattle.rail_state.specs.declared.train.TrainState.{TrainState}
use Rattle.rail_state.specs.TrainStates.{after_taking, no_state, state_of}
use Rattle.rail_state.specs.TrainSearches.{AreSetsOf, is_changeable}
use Rattle.rail_state.proofs.ChangeableCauses.{unchangeable_each}
use Rattle.rail_state.proofs.Turned.{item_left, left_known, passes_left, set_passes, turned_all, turned_item, turned_none}
use Rattle.rail_state.proofs.train_walks.note_taking_each.Goals as goal

pub loop-train-init : goal.loop-train-init
loop-train-init c = record {
  noted = turned_none (after_taking c.args.plant.now c.args.holders.now) c.args.rows.now c.args.sets.now.changeable (λ t off.
      unchangeable_each c.args.plant.now c.args.holders.now c.args.rows.now c.requires.known c.requires.waits c.requires.at_first_section t (sym (c.requires.sets.changeable t) ∙ off));
  changeable = set_passes is_changeable c.args.rows.now c.args.sets.now.changeable c.requires.sets.changeable;
  sets = c.requires.sets;
}

pub note_taking-requires-clause-moves : goal.note_taking-requires-clause-moves
note_taking-requires-clause-moves c = λ waits.
    let change = after_taking c.args.plant.now c.args.holders.now in
    let old : List TrainState = c.args.rows.now in
    let rows : List TrainState = c.loop-train.rows in
    let t : ℕ = c.in-Some.train in
    let item : TrainState = c.index-rows-from.result in
    let within : t < length rows = left_known is_changeable change old rows c.loop-train.left t refl c.loop-train.invariant.changeable c.in-Some.ensures.was c.loop-train.invariant.noted in
    let was : get_or rows c.from.result item ≡ state_of old t = item_left change old rows c.loop-train.left t c.from.result item (c.from.ensures ∙ c.train.view_is) within c.in-Some.ensures.was c.loop-train.invariant.noted in
    subst (λ (r : TrainState). r.place < moves c.args.plant.now t) (sym was)
    (c.requires.moves t (omega (arith, within, c.loop-train.invariant.noted.long, c.requires.known)) (ap (λ (r : TrainState). r.waits) (sym was) ∙ waits))

pub loop-train-preserved-then-not-note_taking : goal.loop-train-preserved-then-not-note_taking
loop-train-preserved-then-not-note_taking c =
    let change = after_taking c.args.plant.now c.args.holders.now in
    let before = c.loop-train.invariant in
    let old : List TrainState = c.args.rows.now in
    let rows : List TrainState = c.loop-train.rows in
    let t : ℕ = c.in-Some.train in
    let item : TrainState = c.index-rows-from.result in
    let now : TrainState = c.note_taking.new.self in
    let here : c.from.result ≡ t = c.from.ensures ∙ c.train.view_is in
    let within : t < length rows = left_known is_changeable change old rows c.loop-train.left t refl before.changeable c.in-Some.ensures.was before.noted in
    let read : get_or rows c.from.result item ≡ state_of rows t = get_or_default rows c.from.result item no_state (omega (arith, here, within)) ∙ ap (state_of rows) here in
    let waits : now.waits ≡ (state_of rows t).waits = ap (λ (r : TrainState). r.waits) (c.note_taking.ensures.train_state ∙ ap (change t) read) in
    record {
      noted = turned_item change old rows c.loop-train.left c.take_first.new.self t c.from.result item now here within c.in-Some.ensures.was c.in-Some.ensures.left before.noted c.note_taking.ensures.train_state;
      changeable = passes_left c.loop-train.left c.take_first.new.self t c.in-Some.ensures.left is_changeable old before.changeable;
      sets = subst (λ (k : ℕ). AreSetsOf (set rows k now) c.note_forgotten.new.self) (sym here) (c.note_forgotten.ensures rows within waits before.sets);
    }

pub loop-train-preserved : goal.loop-train-preserved
loop-train-preserved c =
    let change = after_taking c.args.plant.now c.args.holders.now in
    let before = c.loop-train.invariant in
    let old : List TrainState = c.args.rows.now in
    let rows : List TrainState = c.loop-train.rows in
    let t : ℕ = c.in-Some.train in
    let item : TrainState = c.index-rows-from.result in
    let now : TrainState = c.note_taking.new.self in
    let here : c.from.result ≡ t = c.from.ensures ∙ c.train.view_is in
    let within : t < length rows = left_known is_changeable change old rows c.loop-train.left t refl before.changeable c.in-Some.ensures.was before.noted in
    record {
      noted = turned_item change old rows c.loop-train.left c.take_first.new.self t c.from.result item now here within c.in-Some.ensures.was c.in-Some.ensures.left before.noted c.note_taking.ensures.train_state;
      changeable = passes_left c.loop-train.left c.take_first.new.self t c.in-Some.ensures.left is_changeable old before.changeable;
      sets = subst (λ (rs : List TrainState). AreSetsOf rs c.loop-train.sets)
          (sym (ap (set rows c.from.result) (c.note_taking.ensures.same c.if-not-note_taking.false) ∙ set-get_or rows c.from.result item)) before.sets;
    }

pub returns-clause-noted : goal.returns-clause-noted
returns-clause-noted c = turned_all (after_taking c.args.plant.now c.args.holders.now) c.args.rows.now c.loop-train.rows c.loop-train.left (c.in_default.ensures.none refl) c.loop-train.invariant.noted
