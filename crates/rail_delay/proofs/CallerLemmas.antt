-- Lemmas for the crates above: what may be cited of this crate beside its definitions and public clauses. The other proof files are private to it.

-- Words: a line that is put together word by word.

-- the first word, one further word, several, and the line feed
pub use Rattle.rail_delay.proofs.Words.{first_word, one_word, more_words, ended_line}
