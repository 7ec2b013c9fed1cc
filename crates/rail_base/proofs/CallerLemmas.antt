-- Lemmas for the crates above: what may be cited of this crate beside its definitions and public clauses. The other proof files are private to it.

-- Writing: the text of a time, and its parts.

-- what holds of the decimal digits, and of them behind a zero, holds of the hours
pub use Rattle.rail_base.proofs.Writing.{hours_cases}
-- Telling: a text tells its time.

-- two times with one text are one
pub use Rattle.rail_base.proofs.Telling.{time_text-injective}
-- FirstRefusals: first refusals.

-- the tests of one list before those of another
pub use Rattle.rail_base.proofs.FirstRefusals.{first_failing-append}
-- no test fails, and the first refusal is none
pub use Rattle.rail_base.proofs.FirstRefusals.{AllPassed, all_passed, none_failing}
-- the fault that a call passes up answers what the called one answered
pub use Rattle.rail_base.proofs.FirstRefusals.{passed_up}
-- OfBytes: tests none of which refuses a file for its size, of two lists of them, and the first that fails.
pub use Rattle.rail_base.proofs.OfBytes.{AreOfBytes, first_of_bytes, of_both}
