use Rattle.std.proofs.Common.{◌≡◌, ◌<◌, ◌≤◌, ◌++◌, List, ℕ, length, map}
use Rattle.rail_rules.specs.Texts.{items_of}
use Rattle.rail_rules.specs.Texts.{behind}
use Rattle.rail_history.specs.Lines.{item_text}
use Rattle.rail_history.specs.Pieces.{IsHandedOn}
use Rattle.rail_text.specs.declared.line_buffer.TheConstants.{ROOM}
use Rattle.rail_history.proofs.trains.put_items.Given as goal

abbrev pub invariant-loop-train : goal.invariant-loop-train
invariant-loop-train g l = record {
  said : List ℕ;
  so_far : IsHandedOn (g.O.Sink.written l.initial.out) (g.O.Sink.written l.out) l.line said;
  whole : said ++ behind (map (item_text l.names) (items_of l.left)) ≡ l.initial.line ++ behind (map (item_text l.names) (items_of l.list));
  room : length l.line < ROOM;
  faults : g.O.Sink.faults l.initial.out ≤ g.O.Sink.faults l.out;
}

abbrev pub decreases-loop-train : goal.decreases-loop-train
decreases-loop-train g l = length l.left
