use Rattle.rail_state.specs.TrainStates.{is_untried, lacks_hold_line}
use Rattle.rail_state.specs.TrainSearches.{is_changeable, is_waiting}
use Rattle.rail_state.proofs.Sets.{put_set}
use Rattle.rail_state.proofs.train_sets.TrainSets.note.Goals as goal
use Rattle.std.proofs.Common.{refl}

pub returns : goal.returns
returns c = λ states lt are.
    let t = c.args.train in
    let now = c.args.train_state.now in
    let old = c.args.self.now in
    record {
      waiting = put_set is_waiting states old.waiting c.put.new.self t now now.waits lt refl c.put.ensures are.waiting;
      untried = put_set is_untried states old.untried c.put-2.new.self t now c.is_untried.result lt c.is_untried.ensures c.put-2.ensures are.untried;
      lacking = put_set lacks_hold_line states old.lacking c.put-3.new.self t now c.lacks_hold_line.result lt c.lacks_hold_line.ensures c.put-3.ensures are.lacking;
      changeable = put_set is_changeable states old.changeable c.put-4.new.self t now c.is_changeable.result lt c.is_changeable.ensures c.put-4.ensures are.changeable;
    }
