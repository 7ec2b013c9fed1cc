use Rattle.std.proofs.Common.{◌≡◌, length, List, ◌++◌, take, drop, ap, sym, subst, ◌∙◌, arith}
use Rattle.rail_state.specs.declared.train.TrainState.{TrainState}
use Rattle.rail_state.specs.TrainStates.{bar_by, looked_at, state_of}
use Rattle.rail_state.specs.TrainSearches.{AreBlockedAt, AreSetsOf}
use Rattle.rail_state.proofs.Sets.{written_back}
use Rattle.rail_state.proofs.trains.TrainStates.look.Goals as goal

pub look_at_each-requires-clause-few : goal.look_at_each-requires-clause-few
look_at_each-requires-clause-few c = omega (arith, ap length c.deref_mut.ensures.value, c.self.invariant.few)

pub look_at_each-requires-clause-sets : goal.look_at_each-requires-clause-sets
look_at_each-requires-clause-sets c = subst (λ (rows : List TrainState). AreSetsOf rows c.self.inside.sets) (sym c.deref_mut.ensures.value) c.self.invariant.sets

-- what was written back
new_rows : (c : goal.After-self-1) → take c.self.inside.rows.len (c.look_at_each.new.rows ++ drop (length c.look_at_each.new.rows) c.self.inside.rows.items) ≡ c.look_at_each.new.rows
new_rows c = written_back c.look_at_each.new.rows c.self.inside.rows.items c.self.inside.rows.len (omega arith)

pub invariant_of-self : goal.invariant_of-self
invariant_of-self c =
    rw (new_rows c) (record {
      few = omega (arith, c.self.invariant.few, c.look_at_each.ensures.length, ap length c.deref_mut.ensures.value);
      full = omega (arith, c.self.invariant.full, c.look_at_each.ensures.length, ap length c.deref_mut.ensures.value);
      sets = c.look_at_each.ensures.sets;
      blocked = c.look_at_each.ensures.blocked (subst (λ (rows : List TrainState). AreBlockedAt rows c.self.inside.blocked) (sym c.deref_mut.ensures.value) c.self.invariant.blocked);
    })

pub returns-clause-trains : goal.returns-clause-trains
returns-clause-trains c = λ t _.
    ap (λ (rows : List TrainState). state_of rows t) (new_rows c)
    ∙ c.look_at_each.ensures.looked t
    ∙ ap (λ (rows : List TrainState). looked_at c.args.plant.now (bar_by c.args.orders.now c.args.holders.now) t (state_of rows t)) (c.deref_mut.ensures.value ∙ c.self.view_is)

pub returns-clause-first : goal.returns-clause-first
returns-clause-first c = rw (new_rows c) c.look_at_each.ensures.first
