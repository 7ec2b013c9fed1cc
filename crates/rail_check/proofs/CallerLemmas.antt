-- Lemmas for the crates above: what may be cited of this crate beside its definitions and public clauses. The other proof files are private to it.

-- Printed: what a run prints is the text of a history file, and is answered yes.
pub use Rattle.rail_check.proofs.Printed.{behind_is, in_file, printed}
-- TakenLines: a ledger takes of the lines of a history what stands in the file.
pub use Rattle.rail_check.proofs.TakenLines.{taken_line}
