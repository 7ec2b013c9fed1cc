use Rattle.std.proofs.Common.{◌≡◌, ◌≤◌, List, map}
use Rattle.rail_engine.specs.Engines.{StandsFor}
use Rattle.rail_policy.specs.Desks.{Table}
use Rattle.rail_rules.specs.Fronts.{Front}
use Rattle.rail_rules.specs.RunHistories.{Seat}
use Rattle.rail_save.proofs.WrittenLines.{AreWritten}
use Rattle.rail_save.proofs.lines.write_lines.Given as goal

abbrev pub invariant-loop : goal.invariant-loop
invariant-loop g l =
    let first : Table = record {
      seats = map (λ held. (goal.Policy-dyn g (held.vtable, held.value)).seat held.value) l.fn.engine.desk.deck.items;
      force = l.fn.engine.desk.force;
      last = l.fn.engine.desk.last;
    } in
    let now : Table = record {
      seats = map (λ held. (goal.Policy-dyn g (held.vtable, held.value)).seat held.value) l.engine.desk.deck.items;
      force = l.engine.desk.force;
      last = l.engine.desk.last;
    } in
    record {
      input : l.engine.core.input ≡ l.fn.engine.core.input;
      written : (seats : List Seat) (front : Front) → StandsFor seats front l.fn.engine.core first
          → AreWritten g.O.Sink seats front l.counter l.engine.core now l.fn.out l.out;
      faults : g.O.Sink.faults l.fn.out ≤ g.O.Sink.faults l.out;
    }
