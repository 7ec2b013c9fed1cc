use Rattle.std.proofs.Common.{◌≡◌, None, sym, ◌∙◌}
use Rattle.rail_state.specs.TrainStates.{is_untried, lacks_hold_line, state_of}
use Rattle.rail_state.specs.TrainSearches.{is_changeable, is_waiting}
use Rattle.rail_state.proofs.Sets.{changes_unknown, lacks_unknown, put_set, removed_set, same_set, same_sets, tried_known, unknown_is, untried_parts, untried_unknown}
use Rattle.rail_state.proofs.train_sets.TrainSets.note_look.Goals as goal

pub returns-then-is_some : goal.returns-then-is_some
returns-then-is_some c = λ states lt untried waits are.
    let t = c.args.train in
    let now = c.args.train_state.now in
    let old = c.args.self.now in
    record {
      waiting = same_set is_waiting states old.waiting t now lt (waits ∙ sym (untried_parts (state_of states t) untried).0) are.waiting;
      untried = removed_set is_untried states old.untried c.remove.new.self t now lt (tried_known now (sym c.is_some.ensures ∙ c.if-is_some.true)) c.remove.ensures.left are.untried;
      lacking = put_set lacks_hold_line states old.lacking c.put.new.self t now c.lacks_hold_line.result lt c.lacks_hold_line.ensures c.put.ensures are.lacking;
      changeable = put_set is_changeable states old.changeable c.put-then-is_some.new.self t now c.is_changeable.result lt c.is_changeable.ensures c.put-then-is_some.ensures are.changeable;
    }

pub returns-else-is_some : goal.returns-else-is_some
returns-else-is_some c = λ states lt untried waits are.
    let t = c.args.train in
    let now = c.args.train_state.now in
    let before = untried_parts (state_of states t) untried in
    let none : now.known ≡ None = unknown_is now.known (sym c.is_some.ensures ∙ c.if-is_some.false) in
    same_sets states c.args.self.now t now lt (waits ∙ sym before.0) (sym (untried_unknown now none) ∙ waits ∙ sym untried)
    (lacks_unknown now none ∙ sym (lacks_unknown (state_of states t) before.1))
    (changes_unknown now none ∙ sym (changes_unknown (state_of states t) before.1)) are
