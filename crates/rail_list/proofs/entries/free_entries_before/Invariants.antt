use Rattle.std.proofs.Common.{◌≡◌, ◌+◌, ◌-◌, ◌≤◌, length, drop}
use Rattle.rail_base.specs.declared.limits.TheConstants.{TRAINS}
use Rattle.rail_place.specs.Tables.{moves_in}
use Rattle.rail_list.specs.KeptLists.{before_first, is_free_before}
use Rattle.rail_list.proofs.Turns.{AreTold}
use Rattle.rail_list.proofs.entries.free_entries_before.Given as goal

abbrev pub invariant-loop-index : goal.invariant-loop-index
invariant-loop-index l = record {
  same : l.kept.trains ≡ l.initial.kept.trains;
  room : l.kept.room ≡ l.initial.kept.room;
  within : l.index ≤ length l.initial.kept.trains;
  looked : l.kept.looked ≤ l.initial.kept.looked + l.index;
  first : l.index + length (before_first l.train (drop l.index l.initial.kept.trains)) ≡ length (before_first l.train l.initial.kept.trains);
  exact : is_free_before (moves_in l.moves) l.train l.sections (drop l.index l.initial.kept.trains) ≡ is_free_before (moves_in l.moves) l.train l.sections l.initial.kept.trains;
  long : length l.passed ≡ TRAINS;
  told : AreTold (moves_in l.moves) l.sections l.initial.kept.trains (drop l.index l.initial.kept.trains) l.passed;
}

abbrev pub decreases-loop-index : goal.decreases-loop-index
decreases-loop-index l = length l.initial.kept.trains - l.index
