use Rattle.std.proofs.Common.{◌≡◌, ◌+◌, take, map, count_by}
use Rattle.rail_track.specs.KeyCounts.{times}
use Rattle.rail_track.proofs.tally.discount_each.Given as goal

abbrev pub invariant-loop-item : goal.invariant-loop-item
invariant-loop-item g l =
    (other : g.row.K.Denot) → times g.K.PartialEq.eq l.tally other + count_by (g.K.PartialEq.eq other) (map g.T.Keyed.key_of (take l.item-index l.items)) ≡ times g.K.PartialEq.eq l.initial.tally other
