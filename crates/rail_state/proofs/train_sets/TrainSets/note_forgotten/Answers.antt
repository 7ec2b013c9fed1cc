use Rattle.rail_state.specs.TrainStates.{is_untried, lacks_hold_line}
use Rattle.rail_state.specs.TrainSearches.{is_changeable, is_waiting}
use Rattle.rail_state.proofs.Sets.{changes_unknown, lacks_unknown, put_set, removed_set, same_set, untried_unknown}
use Rattle.rail_state.proofs.train_sets.TrainSets.note_forgotten.Goals as goal

pub returns : goal.returns
returns c = λ states lt waits are.
    let t = c.args.train in
    let now = c.args.train_state.now in
    let old = c.args.self.now in
    let none = c.requires.unknown in
    record {
      waiting = same_set is_waiting states old.waiting t now lt waits are.waiting;
      untried = put_set is_untried states old.untried c.put.new.self t now now.waits lt (untried_unknown now none) c.put.ensures are.untried;
      lacking = removed_set lacks_hold_line states old.lacking c.remove.new.self t now lt (lacks_unknown now none) c.remove.ensures.left are.lacking;
      changeable = removed_set is_changeable states old.changeable c.remove-2.new.self t now lt (changes_unknown now none) c.remove-2.ensures.left are.changeable;
    }
