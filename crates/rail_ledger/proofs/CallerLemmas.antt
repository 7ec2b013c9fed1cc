-- Lemmas for the crates above: what may be cited of this crate beside its definitions and public clauses. The other proof files are private to it.

-- Deciding: nothing is pending at the instant, so it is decided who goes.
pub use Rattle.rail_ledger.proofs.Deciding.{deciding_at}
-- Another list that belongs to the last line leaves the front.
pub use Rattle.rail_ledger.proofs.Judged.{listed_as}
-- A hold line is no admission.
pub use Rattle.rail_ledger.proofs.Judged.{hold_none}
-- The line of an entry that is taken: of an admission, and of another entry.
pub use Rattle.rail_ledger.proofs.Judged.{admission_taken, other_taken}
-- A train that waits without a known cause and that nothing bars is next.
pub use Rattle.rail_ledger.proofs.Looking.{next_unbarred}
-- A train that waits has a move left.
pub use Rattle.rail_ledger.proofs.Admissions.{left_of}
-- The number of a train's next move fits.
pub use Rattle.rail_ledger.proofs.Room.{place_fits}
