use Rattle.std.proofs.Common.{length, map}
use Rattle.rail_history.specs.LinesLeft.{lines_left}
use Rattle.rail_policy.specs.Desks.{Table, run_seats}
use Rattle.rail_save.proofs.Following.{IsFollowed}
use Rattle.rail_save.proofs.resuming.follow_lines.Given as goal

abbrev pub invariant-loop-entry : goal.invariant-loop-entry
invariant-loop-entry g l =
    let first : Table = record {
      seats = map (λ held. (goal.Policy-dyn g (held.vtable, held.value)).seat held.value) l.fn.engine.desk.deck.items;
      force = l.fn.engine.desk.force;
      last = l.fn.engine.desk.last;
    } in
    let now : Table = record {
      seats = map (λ held. (goal.Policy-dyn g (held.vtable, held.value)).seat held.value) l.engine.desk.deck.items;
      force = l.engine.desk.force;
      last = l.engine.desk.last;
    } in
    record {
      followed : IsFollowed l.fn.engine.core.input (run_seats first) (lines_left l.fn.lines) l.number (lines_left l.lines) l.engine.core now;
    }

abbrev pub decreases-loop-entry : goal.decreases-loop-entry
decreases-loop-entry g l = length (lines_left l.lines)
