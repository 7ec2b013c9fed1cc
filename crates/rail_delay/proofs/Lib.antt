-- The lemmas of this crate; those for the crates above stand in CallerLemmas.
pub mod CallerLemmas
-- Lemmas on waits.
mod Holds
mod Within
mod Stepping
-- Lemmas on visits.
mod VisitSets
-- Lemmas on what is kept.
mod Noted
-- Lemmas on lines.
mod Words
mod Writes
-- Lemmas on lawful fronts.
mod Spans
mod Stories
mod MoveWaits
