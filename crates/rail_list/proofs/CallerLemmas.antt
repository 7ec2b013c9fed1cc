-- Lemmas for the crates above: what may be cited of this crate beside its definitions and public clauses. The other proof files are private to it.

-- Appending: the list with the moves that are left to an entering train at its end, and how long a list that completes is.

-- a list that completes has no more entries than the trains have moves
pub use Rattle.rail_list.proofs.Appending.{completing_fits}
-- a list that completes names trains that there are
pub use Rattle.rail_list.proofs.Appending.{completing_listed}
