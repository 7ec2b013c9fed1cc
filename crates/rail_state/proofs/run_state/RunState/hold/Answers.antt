use Rattle.std.proofs.Common.{◌≡◌, ◌+◌, refl, ap, ◌∙◌}
use Rattle.std.specs.Prelude.{count_by}
use Rattle.rail_base.specs.declared.history.What.TheVariants.{Hold}
use Rattle.rail_state.specs.declared.train.TrainState.{TrainState}
use Rattle.rail_state.specs.Events.{deferred_of}
use Rattle.rail_state.specs.TrainStates.{state_of}
use Rattle.rail_state.proofs.run_state.RunState.hold.Goals as goal

pub returns-clause-what : goal.returns-clause-what
returns-clause-what c = λ why known.
    let same : c.get-train_state.result.now ≡ state_of c.args.self.now.trains c.args.train = c.get-train_state.ensures in
    c.hold_with.ensures why (ap (λ (r : TrainState). r.known) same ∙ known) ∙ ap (λ (r : TrainState). Hold c.args.train (r.place + 1) why) same

pub returns-clause-line : goal.returns-clause-line
returns-clause-line c =
    let same : c.get-train_state.result.now ≡ state_of c.args.self.now.trains c.args.train = c.get-train_state.ensures in
    record {
      events = λ q. c.push_deferred.ensures.counted q ∙ ap (λ list. count_by q c.args.self.now.queue.events + count_by q list)
          (ap (λ (r : TrainState). deferred_of c.args.plant.now c.args.train r.place c.hold-arrival.result) same
          ∙ ap (deferred_of c.args.plant.now c.args.train (state_of c.args.self.now.trains c.args.train).place) c.hold-arrival.ensures.arrival);
      trains = c.hold-arrival.ensures.trains;
      holders = refl;
      time = refl;
      going = refl;
      settled = c.requires.unsettled;
    }
