use Rattle.std.proofs.Common.{◌≡◌, ◌+◌, ◌≤◌, take, map, count_by}
use Rattle.indexmap.specs.IndexMap.{spare}
use Rattle.rail_track.specs.KeyCounts.{times}
use Rattle.rail_track.proofs.tally.count_each.Given as goal

abbrev pub invariant-loop-item : goal.invariant-loop-item
invariant-loop-item g l =
    record {
      counted : (other : g.row.K.Denot) → times g.K.PartialEq.eq l.tally other ≡ times g.K.PartialEq.eq l.initial.tally other + count_by (g.K.PartialEq.eq other) (map g.T.Keyed.key_of (take l.item-index l.items));
      room : spare l.initial.tally ≤ spare l.tally + l.item-index;
    }
