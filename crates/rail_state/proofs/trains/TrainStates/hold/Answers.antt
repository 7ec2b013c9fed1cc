use Rattle.std.proofs.Common.{◌≡◌, ◌<◌, ℕ, length, set, ap, inl, sym, subst, ◌∙◌, arith}
use Rattle.std.proofs.lemmas.List.{length-set}
use Rattle.rail_state.specs.declared.train.TrainState.{TrainState}
use Rattle.rail_state.specs.TrainStates.{after_hold_line, state_of}
use Rattle.rail_state.specs.TrainSearches.{AreSetsOf}
use Rattle.rail_state.proofs.Sets.{blocked_at, train_read}
use Rattle.rail_state.proofs.trains.TrainStates.hold.Goals as goal

pub invariant_of-self : goal.invariant_of-self
invariant_of-self c =
    let old = c.self.inside.rows.items in
    let i : ℕ = c.from.result in
    let train_state : TrainState = c.hold-arrival.new.self in
    let here : c.args.train ≡ i = omega arith in
    let within : i < length old = omega (arith, ap length c.self.view_is) in
    let before : c.index_mut-train_state.result.now ≡ state_of old i = train_read old i c.index_mut-train_state.result.now within c.index_mut-train_state.ensures.value in
    let is : train_state ≡ after_hold_line (state_of old i) = c.hold-arrival.ensures.train_state ∙ ap after_hold_line before in
    let known : train_state.known ≡ (state_of old i).known = ap (λ (r : TrainState). r.known) is in
    record {
      few = omega (arith, c.self.invariant.few, length-set old i train_state);
      full = omega (arith, c.self.invariant.full, length-set old i train_state);
      sets = subst (λ (r : TrainState). AreSetsOf (set old i r) c.note_hold.new.self) (sym is)
          (subst (λ (k : ℕ). AreSetsOf (set old k (after_hold_line (state_of old k))) c.note_hold.new.self) here (c.note_hold.ensures old (omega (arith, within, here)) c.self.invariant.sets));
      blocked = blocked_at old c.self.inside.blocked i train_state within (inl known) c.self.invariant.blocked;
    }
