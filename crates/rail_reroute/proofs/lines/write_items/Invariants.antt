use Rattle.std.proofs.Common.{◌≡◌, ◌++◌, List, ℕ, Ok, length, map}
use Rattle.rail_rules.specs.Texts.{behind, items_of}
use Rattle.rail_text.specs.Writes.{WritesText}
use Rattle.rail_reroute.specs.Lines.{item_word, scene_names}
use Rattle.rail_reroute.proofs.lines.write_items.Given as goal

abbrev pub invariant-loop-train : goal.invariant-loop-train
invariant-loop-train g l = record {
  said : List ℕ;
  written : WritesText g.O.Sink l.initial.out l.out said (Ok tt);
  whole : said ++ behind (map (item_word (scene_names l.scene)) (items_of l.left)) ≡ behind (map (item_word (scene_names l.scene)) (items_of l.list));
}

abbrev pub decreases-loop-train : goal.decreases-loop-train
decreases-loop-train g l = length l.left
