use Rattle.std.proofs.Common.{◌≡◌, ◌<◌, ◌≤◌, ◌++◌, List, ℕ, length, map}
use Rattle.rail_rules.specs.Texts.{behind}
use Rattle.rail_text.specs.Names.{names_in, train_name}
use Rattle.rail_history.specs.Pieces.{IsHandedOn}
use Rattle.rail_text.specs.declared.line_buffer.TheConstants.{ROOM}
use Rattle.rail_history.proofs.trains.put_trains.Given as goal

abbrev pub invariant-loop-train : goal.invariant-loop-train
invariant-loop-train g l = record {
  said : List ℕ;
  so_far : IsHandedOn (g.O.Sink.written l.initial.out) (g.O.Sink.written l.out) l.line said;
  whole : said ++ behind (map (train_name (names_in l.names)) l.left) ≡ l.initial.line ++ behind (map (train_name (names_in l.names)) l.list);
  room : length l.line < ROOM;
  faults : g.O.Sink.faults l.initial.out ≤ g.O.Sink.faults l.out;
}

abbrev pub decreases-loop-train : goal.decreases-loop-train
decreases-loop-train g l = length l.left
