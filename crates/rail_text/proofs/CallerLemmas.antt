-- Lemmas for the crates above: what may be cited of this crate beside its definitions and public clauses. The other proof files are private to it.

-- Items: the items of a list, and the words of its items, from the first train on.
pub use Rattle.rail_text.proofs.Items.{first_word}
-- SpacedLines: a line that is put together word by word: one more word, the first one, and all of them.
pub use Rattle.rail_text.proofs.SpacedLines.{behind_append, line_is, word_before, word_first}
-- NameWords: a word that is read as a name is that name.
pub use Rattle.rail_text.proofs.NameWords.{read_as}
-- Parts: where a position was found, it is one of the list's.
pub use Rattle.rail_text.proofs.Parts.{found_at}
-- TimeWords: the digits of the hours of a time spell their number; the time of an input that a word spells is one of the input, within its limit.
pub use Rattle.rail_text.proofs.TimeWords.{hours_value, input_time_spelled}
-- Written: nothing, a text and then another one, or a first part of both was written.
pub use Rattle.rail_text.proofs.Written.{both_written, none_written, part_written}
