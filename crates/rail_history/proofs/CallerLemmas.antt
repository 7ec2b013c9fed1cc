-- Lemmas for the crates above: what may be cited of this crate beside its definitions and public clauses. The other proof files are private to it.

-- Lawful: the lines of a lawful front are lines of a history file, and so is its last.
pub use Rattle.rail_history.proofs.Lawful.{lawful_lines, line_known}
-- OneHistory: the bytes of a history stand for its lines alone; of other bytes one line is the first that is none, and its
-- number is not above their count.
pub use Rattle.rail_history.proofs.OneHistory.{no_history, one_history, one_wrong, wrong_within}
-- Histories: an entry is a line.
pub use Rattle.rail_history.proofs.Histories.{length-lines_in}
