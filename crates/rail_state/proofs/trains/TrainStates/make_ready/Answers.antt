use Rattle.std.proofs.Common.{◌≡◌, ◌<◌, ℕ, true, length, set, ap, inl, subst, arith}
use Rattle.std.proofs.lemmas.List.{length-set}
use Rattle.rail_state.specs.declared.train.TrainState.{TrainState}
use Rattle.rail_state.specs.TrainStates.{state_of}
use Rattle.rail_state.specs.TrainSearches.{AreSetsOf}
use Rattle.rail_state.proofs.Sets.{blocked_at, train_read}
use Rattle.rail_state.proofs.trains.TrainStates.make_ready.Goals as goal

pub invariant_of-self : goal.invariant_of-self
invariant_of-self c =
    let old = c.self.inside.rows.items in
    let i : ℕ = c.from.result in
    let train_state : TrainState = record c.index_mut-train_state.result.now { waits = true } in
    let here : c.args.train ≡ i = omega arith in
    let within : i < length old = omega (arith, ap length c.self.view_is) in
    let read : c.index_mut-train_state.result.now ≡ state_of old i = train_read old i c.index_mut-train_state.result.now within c.index_mut-train_state.ensures.value in
    record {
      few = omega (arith, c.self.invariant.few, length-set old i train_state);
      full = omega (arith, c.self.invariant.full, length-set old i train_state);
      sets = subst (λ (k : ℕ). AreSetsOf (set old k train_state) c.note.new.self) here (c.note.ensures old (omega (arith, within, here)) c.self.invariant.sets);
      blocked = blocked_at old c.self.inside.blocked i train_state within (inl (ap (λ (r : TrainState). r.known) read)) c.self.invariant.blocked;
    }
