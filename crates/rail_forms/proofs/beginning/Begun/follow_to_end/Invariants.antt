use Rattle.std.proofs.Common.{◌≡◌, map}
use Rattle.rail_policy.specs.Desks.{Table, run_seats}
use Rattle.rail_forms.proofs.Progress.{IsNotedSoFar}
use Rattle.rail_forms.proofs.beginning.Begun.follow_to_end.Given as goal

abbrev pub invariant-loop : goal.invariant-loop
invariant-loop g l =
    let first : Table = record {
      seats = map (λ held. (goal.Policy-dyn g (held.vtable, held.value)).seat held.value) l.initial.engine.desk.deck.items;
      force = l.initial.engine.desk.force;
      last = l.initial.engine.desk.last;
    } in
    let now : Table = record {
      seats = map (λ held. (goal.Policy-dyn g (held.vtable, held.value)).seat held.value) l.engine.desk.deck.items;
      force = l.engine.desk.force;
      last = l.engine.desk.last;
    } in
    record {
      input : l.engine.core.input ≡ l.initial.engine.core.input;
      so_far : IsNotedSoFar (λ input front. g.N.LineNotes.are_noted input front l.initial.notes l.notes) l.counter (run_seats first) l.engine.core now;
    }
