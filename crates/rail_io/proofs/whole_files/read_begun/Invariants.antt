-- The bytes read so far, and those left, are those that were left at first.
use Rattle.std.proofs.Common.{◌≡◌, ◌+◌, ◌-◌, ◌≤◌, take, vec_len}
use Rattle.std.specs.Io.KnownBytes.{prepend_known}
use Rattle.rail_io.proofs.whole_files.read_begun.Given as goal

abbrev pub invariant-loop-filled : goal.invariant-loop-filled
invariant-loop-filled g l = record {
  within : l.filled ≤ vec_len l.bytes;
  moved : g.S.Shelf.moved l.shelf ≡ l.filled;
  read : g.S.Shelf.left l.initial.shelf ≡ prepend_known (take l.filled l.bytes.items) (g.S.Shelf.left l.shelf);
  begun : g.S.Shelf.begun l.shelf ≡ g.S.Shelf.begun l.initial.shelf;
  told : g.S.Shelf.told l.shelf ≡ g.S.Shelf.told l.initial.shelf;
  failed : g.S.Shelf.failed l.shelf ≡ g.S.Shelf.failed l.initial.shelf;
  faults : g.S.Shelf.faults l.initial.shelf ≤ g.S.Shelf.faults l.shelf;
}

abbrev pub decreases-loop-filled : goal.decreases-loop-filled
decreases-loop-filled g l = l.limit + 1 - l.filled
