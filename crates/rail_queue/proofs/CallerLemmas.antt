-- Lemmas for the crates above: what may be cited of this crate beside its definitions and public clauses. The other proof files are private to it.

-- Filtered: a queue without some of its events.
pub use Rattle.rail_queue.proofs.Filtered.{count_left}
