use Rattle.std.proofs.Common.{◌≡◌, ℕ, true, length, List, ◌++◌, take, drop, ap, sym, subst, ◌∙◌, arith}
use Rattle.rail_state.specs.declared.train.TrainState.{TrainState}
use Rattle.rail_state.specs.TrainStates.{is_blocked_at, state_of, without_known}
use Rattle.rail_state.specs.TrainSearches.{AreSetsOf}
use Rattle.rail_state.proofs.Sets.{blocked_again, written_back}
use Rattle.rail_state.proofs.trains.TrainStates.look_again_at.Goals as goal

pub look_again_at_each-requires-clause-blocked : goal.look_again_at_each-requires-clause-blocked
look_again_at_each-requires-clause-blocked c = λ t is.
    let x : ℕ = c.args.section in
    c.take-blocked.ensures.set t ∙ c.self.invariant.blocked t x (ap (λ (rows : List TrainState). is_blocked_at x (state_of rows t).known) (sym c.deref_mut.ensures.value) ∙ is)

pub look_again_at_each-requires-clause-sets : goal.look_again_at_each-requires-clause-sets
look_again_at_each-requires-clause-sets c = subst (λ (rows : List TrainState). AreSetsOf rows c.self.inside.sets) (sym c.deref_mut.ensures.value) c.self.invariant.sets

-- each train was looked at again
each : (c : goal.After-self-1) (t : ℕ) → state_of c.look_again_at_each.new.rows t ≡ without_known c.args.section (state_of c.self.inside.rows.items t)
each c t = c.look_again_at_each.ensures.rows t ∙ ap (λ (rows : List TrainState). without_known c.args.section (state_of rows t)) c.deref_mut.ensures.value

-- what was written back
new_rows : (c : goal.After-self-1) → take c.self.inside.rows.len (c.look_again_at_each.new.rows ++ drop (length c.look_again_at_each.new.rows) c.self.inside.rows.items) ≡ c.look_again_at_each.new.rows
new_rows c = written_back c.look_again_at_each.new.rows c.self.inside.rows.items c.self.inside.rows.len (omega arith)

pub invariant_of-self : goal.invariant_of-self
invariant_of-self c =
    rw (new_rows c) (record {
      few = omega (arith, c.self.invariant.few, c.look_again_at_each.ensures.length, ap length c.deref_mut.ensures.value);
      full = omega (arith, c.self.invariant.full, c.look_again_at_each.ensures.length, ap length c.deref_mut.ensures.value);
      sets = c.look_again_at_each.ensures.sets;
      blocked = blocked_again c.args.section c.self.inside.rows.items c.look_again_at_each.new.rows c.self.inside.blocked c.take-blocked.new.self (each c) c.take-blocked.ensures.others c.self.invariant.blocked;
    })

pub returns-clause-trains : goal.returns-clause-trains
returns-clause-trains c = λ _ _ t.
    ap (λ (rows : List TrainState). state_of rows t) (new_rows c)
    ∙ each c t
    ∙ ap (λ (rows : List TrainState). without_known c.args.section (state_of rows t)) c.self.view_is

pub returns-clause-any : goal.returns-clause-any
returns-clause-any c = λ off t.
    ap (λ (rows : List TrainState). is_blocked_at c.args.section (state_of rows t).known) (sym (c.deref_mut.ensures.value ∙ c.self.view_is))
    ∙ c.look_again_at_each.ensures.any off t

pub returns-clause-some : goal.returns-clause-some
returns-clause-some c = λ is.
    let found : (t : ℕ) × (is_blocked_at c.args.section (state_of c.deref_mut.result.now t).known ≡ true) = c.look_again_at_each.ensures.some is in
    (found.0, ap (λ (rows : List TrainState). is_blocked_at c.args.section (state_of rows found.0).known) (sym (c.deref_mut.ensures.value ∙ c.self.view_is)) ∙ found.1)
