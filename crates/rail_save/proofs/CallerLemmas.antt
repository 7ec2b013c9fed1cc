-- Lemmas for the crates above: what may be cited of this crate beside its definitions and public clauses. The other proof files are private to it.

-- RunLines: the first lines of a run are a run, and of its lines none is one with which it is another.
pub use Rattle.rail_save.proofs.RunLines.{run_followed}
-- Snapshots: a snapshot stands for its lines alone; of other bytes one line is the first that is none; what was saved is resumed.
pub use Rattle.rail_save.proofs.Snapshots.{no_snapshot, one_snapshot, one_unread, saved_resumed}
