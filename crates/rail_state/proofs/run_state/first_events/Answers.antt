use Rattle.std.proofs.Common.{ℕ, ◌+◌, true, List, [], ◌∷◌, length, ap, ◌∙◌, arith}
use Rattle.std.specs.Prelude.{count_by}
use Rattle.rail_laws_front.proofs.CallerLemmas.{length-listed}
use Rattle.rail_rules.specs.Plant.{trains}
use Rattle.rail_queue.specs.declared.event.Event.{Event}
use Rattle.rail_queue.specs.declared.event.Class.TheVariants.{Ready}
use Rattle.rail_state.specs.Events.{train_event}
use Rattle.rail_state.specs.declared.train.TrainState.{TrainState}
use Rattle.rail_state.specs.TrainStates.{outside, state_of}
use Rattle.rail_state.proofs.QueueRoom.{one_more}
use Rattle.rail_state.proofs.Counts.{count-all}
use Rattle.rail_state.proofs.run_state.first_events.Goals as goal

pub get-requires : goal.get-requires
get-requires c = omega (arith, c.loop-number-test.true, c.trains-trains.ensures.count, c.moves.ensures.trains, ap length c.requires.states, length-listed (outside c.args.plant.now) (trains c.args.plant.now))

pub loop-number-preserved : goal.loop-number-preserved
loop-number-preserved c =
    let n : ℕ = c.loop-number.number in
    let f : ℕ → List Event = λ t. train_event (state_of c.args.states.now t).times.next_ready Ready t 1 ∷ [] in
    let inv = c.loop-number.invariant in
    record {
      counted = λ q. omega (arith, c.push_entry.ensures.counted q, inv.counted q, one_more f q n (n + 1) (omega arith), ap (λ (r : TrainState). count_by q (train_event r.times.next_ready Ready n 1 ∷ [])) c.get.ensures);
      room = c.push_entry.ensures.room ∙ inv.room;
      many = omega (arith, count-all c.push_entry.new.queue.events, count-all c.loop-number.queue.events, c.push_entry.ensures.counted (λ e. true), inv.many);
    }
