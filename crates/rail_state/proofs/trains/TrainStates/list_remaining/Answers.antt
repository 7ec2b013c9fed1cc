use Rattle.std.proofs.Common.{◌||◌, ◌∷◌, [], true, false, not, get_or, ℕ, Bool, List, length, vec_capacity, ap, ◌∙◌, arith}
use Rattle.std.proofs.lemmas.List.{length-append}
use Rattle.rail_state.specs.TrainStates.{state_of}
use Rattle.rail_state.proofs.TrainsChanged.{left_read, passed_here, passed_over}
use Rattle.rail_state.proofs.trains.TrainStates.list_remaining.Goals as goal
use Rattle.rail_state.proofs.trains.TrainStates.list_remaining.Goals.{then-is_left, else-is_left}

pub loop-number-preserved : goal.loop-number-preserved
loop-number-preserved c =
    let states = c.deref-train_state-items.result.now in
    let i = c.loop-number.number in
    let before : List ℕ = c.loop-number.into.items in
    let stays : ℕ → Bool = λ t. not ((state_of states t).is_out || get_or c.args.orders.now.cancelled t false) in
    elim c.if-is_left.branch [
      | then-is_left w ↦
          let added = ap (λ v. v.items) w.into-is ∙ w.push_reserved.ensures.items in
          record {
            trains = passed_here stays i before c.if-is_left.into.items (left_read states c.args.orders.now.cancelled i c.train_state-item.result c.is_left.result true c.loop-number-test.true c.train_state-item.is c.is_left.ensures w.if-is_left.true) c.loop-number.invariant.trains added;
            few = omega (arith, ap length added, length-append before (i ∷ []), c.loop-number.invariant.few);
            room = ap vec_capacity w.into-is ∙ w.push_reserved.ensures.capacity ∙ c.loop-number.invariant.room;
          }
      | else-is_left w ↦
          let kept = ap (λ v. v.items) w.into-is in
          record {
            trains = passed_over stays i before c.if-is_left.into.items (left_read states c.args.orders.now.cancelled i c.train_state-item.result c.is_left.result false c.loop-number-test.true c.train_state-item.is c.is_left.ensures w.if-is_left.false) c.loop-number.invariant.trains kept;
            few = omega (arith, ap length kept, c.loop-number.invariant.few);
            room = ap vec_capacity w.into-is ∙ c.loop-number.invariant.room;
          }
    ]
