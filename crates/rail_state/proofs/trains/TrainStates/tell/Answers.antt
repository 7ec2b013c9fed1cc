use Rattle.std.proofs.Common.{◌≡◌, ℕ, [], ◌∷◌, length, List, ◌++◌, take, drop, ap, sym, subst, ◌∙◌, arith}
use Rattle.rail_state.specs.declared.train.TrainState.{TrainState}
use Rattle.rail_state.specs.TrainStates.{state_of, state_told}
use Rattle.rail_state.specs.TrainSearches.{AreSetsOf}
use Rattle.rail_state.proofs.Sets.{blocked_still, knows_each, knows_told, written_back}
use Rattle.rail_state.proofs.trains.TrainStates.tell.Goals as goal

pub tell_each-requires-clause-few : goal.tell_each-requires-clause-few
tell_each-requires-clause-few c = omega (arith, ap length c.deref_mut.ensures.value, c.self.invariant.few)

pub tell_each-requires-clause-sets : goal.tell_each-requires-clause-sets
tell_each-requires-clause-sets c = subst (λ (rows : List TrainState). AreSetsOf rows c.self.inside.sets) (sym c.deref_mut.ensures.value) c.self.invariant.sets

-- the order is told to each train
told : (c : goal.After-self-1) (t : ℕ) → state_of c.tell_each.new.rows t ≡ state_told c.args.plant.now (c.args.order.now ∷ []) t (state_of c.self.inside.rows.items t)
told c t = c.tell_each.ensures.told t ∙ ap (λ (rows : List TrainState). state_told c.args.plant.now (c.args.order.now ∷ []) t (state_of rows t)) c.deref_mut.ensures.value

-- what was written back
new_rows : (c : goal.After-self-1) → take c.self.inside.rows.len (c.tell_each.new.rows ++ drop (length c.tell_each.new.rows) c.self.inside.rows.items) ≡ c.tell_each.new.rows
new_rows c = written_back c.tell_each.new.rows c.self.inside.rows.items c.self.inside.rows.len (omega arith)

pub invariant_of-self : goal.invariant_of-self
invariant_of-self c =
    let orders = c.args.order.now ∷ [] in
    let old = c.self.inside.rows.items in
    let new = c.tell_each.new.rows in
    rw (new_rows c) (record {
      few = omega (arith, c.self.invariant.few, c.tell_each.ensures.length, ap length c.deref_mut.ensures.value);
      full = omega (arith, c.self.invariant.full, c.tell_each.ensures.length, ap length c.deref_mut.ensures.value);
      sets = c.tell_each.ensures.sets;
      blocked = blocked_still old new c.self.inside.blocked (knows_each (state_told c.args.plant.now orders) old new (knows_told c.args.plant.now orders) (told c)) c.self.invariant.blocked;
    })

pub returns-clause-trains : goal.returns-clause-trains
returns-clause-trains c = λ t _.
    ap (λ (rows : List TrainState). state_of rows t) (new_rows c)
    ∙ told c t
    ∙ ap (λ (rows : List TrainState). state_told c.args.plant.now (c.args.order.now ∷ []) t (state_of rows t)) c.self.view_is
