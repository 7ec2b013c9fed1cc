-- The lemmas of this crate; those for the crates above stand in CallerLemmas.
pub mod CallerLemmas
-- Counts in base 2.
mod Digits
-- Bits of words.
mod Words
-- Bits of the words of a set of trains.
mod TrainSetLemmas
