use Rattle.std.proofs.Common.{◌≡◌, ◌<◌, length, ap, inl, arith}
use Rattle.std.proofs.lemmas.List.{length-set}
use Rattle.rail_state.specs.declared.train.TrainState.{TrainState}
use Rattle.rail_state.specs.TrainStates.{is_untried, lacks_hold_line, state_of}
use Rattle.rail_state.specs.TrainSearches.{is_changeable, is_waiting}
use Rattle.rail_state.proofs.Sets.{blocked_at, same_sets, train_read}
use Rattle.rail_state.proofs.trains.TrainStates.enter.Goals as goal

pub invariant_of-self : goal.invariant_of-self
invariant_of-self c =
    let old = c.self.inside.rows.items in
    let t = c.from.result in
    let train_state : TrainState = c.index_mut-train_state.result.now in
    let within : t < length old = omega (arith, ap length c.self.view_is) in
    let read : train_state ≡ state_of old t = train_read old t train_state within c.index_mut-train_state.ensures.value in
    let new : TrainState = record train_state { head = c.head_behind-train_state.result } in
    record {
      few = omega (arith, c.self.invariant.few, length-set old t new);
      full = omega (arith, c.self.invariant.full, length-set old t new);
      sets = same_sets old c.self.inside.sets t new within (ap is_waiting read) (ap is_untried read) (ap lacks_hold_line read) (ap is_changeable read) c.self.invariant.sets;
      blocked = blocked_at old c.self.inside.blocked t new within (inl (ap (λ (r : TrainState). r.known) read)) c.self.invariant.blocked;
    }
