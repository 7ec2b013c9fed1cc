use Rattle.std.proofs.Common.{◌≡◌, ◌≤◌, List, length, map, true}
use Rattle.std.specs.List.{list_all}
use Rattle.rail_text.specs.Names.{HasNames}
use Rattle.rail_history.specs.HistoryLines.{expanded, is_small_item}
use Rattle.rail_history.specs.ReadWords.{joined}
use Rattle.rail_rules.specs.Plant.{Plant}
use Rattle.rail_rules.specs.Texts.{Item, item_word}
use Rattle.rail_rules.specs.WritableLines.{IsNamed}
use Rattle.rail_history.proofs.TrainsRead.{AreBehind}
use Rattle.rail_history.proofs.read_trains.likely_trains.Given as goal

abbrev pub invariant-loop-left : goal.invariant-loop-left
invariant-loop-left l = record {
  behind : (plant : Plant) → HasNames plant l.names → IsNamed plant → (items : List Item)
      → list_all (is_small_item plant) items ≡ true → length (expanded items) ≤ l.most
      → l.text ≡ joined (map (item_word plant) items) → AreBehind plant items l.list.items l.left;
  few : length l.list.items ≤ l.most;
}

abbrev pub decreases-loop-left : goal.decreases-loop-left
decreases-loop-left l = length l.left
