use Rattle.std.proofs.Common.{refl}
use Rattle.rail_state.specs.declared.train.TrainState.{TrainState}
use Rattle.rail_state.specs.TrainStates.{after_hold_line, is_untried, lacks_hold_line, state_of}
use Rattle.rail_state.specs.TrainSearches.{is_changeable, is_waiting}
use Rattle.rail_state.proofs.Sets.{lacks_none, removed_set, same_set}
use Rattle.rail_state.proofs.train_sets.TrainSets.note_hold.Goals as goal

pub returns : goal.returns
returns c = λ states lt are.
    let t = c.args.train in
    let old = c.args.self.now in
    let now : TrainState = after_hold_line (state_of states t) in
    record {
      waiting = same_set is_waiting states old.waiting t now lt refl are.waiting;
      untried = same_set is_untried states old.untried t now lt refl are.untried;
      lacking = removed_set lacks_hold_line states old.lacking c.remove.new.self t now lt (lacks_none (state_of states t)) c.remove.ensures.left are.lacking;
      changeable = same_set is_changeable states old.changeable t now lt refl are.changeable;
    }
