use Rattle.std.proofs.Common.{◌≡◌, ◌<◌, ℕ, false, [], ◌∷◌, List, length, get_or, set, refl, sym, ap, subst, ◌∙◌, arith}
use Rattle.rail_rules.specs.Plant.{moves}
use Rattle.rail_state.specs.declared.train.TrainState.{TrainState}
use Rattle.rail_state.specs.TrainStates.{state_of, state_told}
use Rattle.rail_state.specs.TrainSearches.{AreSetsOf, is_waiting}
use Rattle.rail_state.proofs.ChangeableCauses.{told_none}
use Rattle.rail_state.proofs.Turned.{item_left, left_known, passes_left, set_passes, turned_all, turned_item, turned_none}
use Rattle.rail_state.proofs.train_walks.tell_each.Goals as goal

pub loop-train-init : goal.loop-train-init
loop-train-init c = record {
  told = turned_none (state_told c.args.plant.now (c.args.order.now ∷ [])) c.args.rows.now c.args.sets.now.waiting (λ t off.
      let idle : (state_of c.args.rows.now t).waits ≡ false = sym (c.requires.sets.waiting t) ∙ off in
      told_none c.args.plant.now (c.args.order.now ∷ []) t (state_of c.args.rows.now t) idle (c.requires.waits t idle));
  waiting = set_passes is_waiting c.args.rows.now c.args.sets.now.waiting c.requires.sets.waiting;
  sets = c.requires.sets;
}

pub tell-requires-clause-moves : goal.tell-requires-clause-moves
tell-requires-clause-moves c = λ waits.
    let change = state_told c.args.plant.now (c.args.order.now ∷ []) in
    let old : List TrainState = c.args.rows.now in
    let rows : List TrainState = c.loop-train.rows in
    let t : ℕ = c.in-Some.train in
    let item : TrainState = c.index-rows-from.result in
    let within : t < length rows = left_known is_waiting change old rows c.loop-train.left t refl c.loop-train.invariant.waiting c.in-Some.ensures.was c.loop-train.invariant.told in
    let was : get_or rows c.from.result item ≡ state_of old t = item_left change old rows c.loop-train.left t c.from.result item (c.from.ensures ∙ c.train.view_is) within c.in-Some.ensures.was c.loop-train.invariant.told in
    subst (λ (r : TrainState). r.place < moves c.args.plant.now t) (sym was)
    (c.requires.moves t (omega (arith, within, c.loop-train.invariant.told.long, c.requires.known)) (ap (λ (r : TrainState). r.waits) (sym was) ∙ waits))

pub tell-requires-clause-waits : goal.tell-requires-clause-waits
tell-requires-clause-waits c = λ off.
    let change = state_told c.args.plant.now (c.args.order.now ∷ []) in
    let old : List TrainState = c.args.rows.now in
    let rows : List TrainState = c.loop-train.rows in
    let t : ℕ = c.in-Some.train in
    let item : TrainState = c.index-rows-from.result in
    let within : t < length rows = left_known is_waiting change old rows c.loop-train.left t refl c.loop-train.invariant.waiting c.in-Some.ensures.was c.loop-train.invariant.told in
    let was : get_or rows c.from.result item ≡ state_of old t = item_left change old rows c.loop-train.left t c.from.result item (c.from.ensures ∙ c.train.view_is) within c.in-Some.ensures.was c.loop-train.invariant.told in
    ap (λ (r : TrainState). r.known) was ∙ c.requires.waits t (ap (λ (r : TrainState). r.waits) (sym was) ∙ off)

pub loop-train-preserved : goal.loop-train-preserved
loop-train-preserved c =
    let change = state_told c.args.plant.now (c.args.order.now ∷ []) in
    let before = c.loop-train.invariant in
    let old : List TrainState = c.args.rows.now in
    let rows : List TrainState = c.loop-train.rows in
    let t : ℕ = c.in-Some.train in
    let item : TrainState = c.index-rows-from.result in
    let here : c.from.result ≡ t = c.from.ensures ∙ c.train.view_is in
    let within : t < length rows = left_known is_waiting change old rows c.loop-train.left t refl before.waiting c.in-Some.ensures.was before.told in
    record {
      told = turned_item change old rows c.loop-train.left c.take_first.new.self t c.from.result item c.tell.new.self here within c.in-Some.ensures.was c.in-Some.ensures.left before.told c.tell.ensures;
      waiting = passes_left c.loop-train.left c.take_first.new.self t c.in-Some.ensures.left is_waiting old before.waiting;
      sets = subst (λ (k : ℕ). AreSetsOf (set rows k c.tell.new.self) c.note.new.self) (sym here) (c.note.ensures rows within before.sets);
    }

pub returns-clause-told : goal.returns-clause-told
returns-clause-told c = turned_all (state_told c.args.plant.now (c.args.order.now ∷ [])) c.args.rows.now c.loop-train.rows c.loop-train.left (c.in_default.ensures.none refl) c.loop-train.invariant.told
