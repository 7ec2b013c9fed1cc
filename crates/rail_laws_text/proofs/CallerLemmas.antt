-- Lemmas for the crates above: what may be cited of this crate beside its definitions and public clauses. The other proof files are private to it.

-- Causing: a cause names trains and sections of the plant.

-- causes that are one by their numbers are one
pub use Rattle.rail_laws_text.proofs.Causing.{one_cause}
-- Writing: each line of a lawful front can be written.

-- each line of a lawful front can be written
pub use Rattle.rail_laws_text.proofs.Writing.{line_writable}
-- Marks: where a text falls apart at marks, it does so in one way.

pub use Rattle.rail_laws_text.proofs.Marks.AreWords.{one_more}
-- each of them is a word
pub use Rattle.rail_laws_text.proofs.Marks.{AreWords}
-- Wording: the words of a line hold neither spaces nor line feeds.
pub use Rattle.rail_laws_text.proofs.Wording.{name_free, of_what}
-- Injective: two lines with one text are one line, and two histories with one text are one history.
pub use Rattle.rail_laws_text.proofs.Injective.{text_same}
-- Naming: the names of an accepted plant are names, and distinct.
pub use Rattle.rail_laws_text.proofs.Naming.{accepted_named}
-- Limiting: the numbers of the lines of a lawful front are within the limits, and there are no more admissions than moves.
pub use Rattle.rail_laws_text.proofs.Limiting.{few_admitted, line_limited}
