use Rattle.std.proofs.Common.{◌≡◌, ◌+◌, ◌-◌, suc, ap, ◌∙◌, arith}
use Rattle.rail_rules.specs.RunHistories.{due}
use Rattle.rail_state.specs.declared.train.TrainState.{TrainState}
use Rattle.rail_state.specs.TrainStates.{state_of}
use Rattle.rail_engine.proofs.Choosing.{place_left}
use Rattle.rail_engine.proofs.offers.offer_of.Goals as goal

pub overflow_add-place : goal.overflow_add-place
overflow_add-place c =
    let left = place_left c.requires.running.front c.args.ledger.now c.requires.running.at c.args.train c.requires.train c.requires.waits in
    omega (arith, left.0, left.1, ap (λ (r : TrainState). r.place) c.get-train_state.ensures)

pub due-requires-clause-last : goal.due-requires-clause-last
due-requires-clause-last c =
    let left = place_left c.requires.running.front c.args.ledger.now c.requires.running.at c.args.train c.requires.train c.requires.waits in
    omega (arith, left.0, ap (λ (r : TrainState). r.place) c.get-train_state.ensures)

pub returns : goal.returns
returns c = λ i. record {
  train = c.args.train;
  place = place_is i;
  priority = c.priority.ensures i;
  entry = (c.train.ensures.row i).entry;
  due = (c.due.ensures ∙ ap (due c.args.ledger.now.input.plant c.args.train) behind) i;
  ready = (c.get-train_state.ensures i).times.next_ready;
}
  where
    place_is : c.get-train_state.result.now.place + 1 ≡ suc (state_of c.args.ledger.now.state.trains c.args.train).place
    place_is = omega (arith, ap (λ (r : TrainState). r.place) c.get-train_state.ensures)

    behind : c.get-train_state.result.now.place + 1 - 1 ≡ (state_of c.args.ledger.now.state.trains c.args.train).place
    behind = omega (arith, ap (λ (r : TrainState). r.place) c.get-train_state.ensures)
