mod Brought
mod ItemTexts
-- Lists as items.
mod ItemRuns
mod Pieces
-- Lemmas on words.
mod Cut
mod Named
mod Reading
mod Spelled
-- Lemmas on times.
mod Times
mod TrainsRead
mod Listed
mod LineRead
mod Histories
mod ReadOn
-- Lemmas on lines and files.
mod LineFeeds
-- Lawful histories.
mod Lawful
-- The bytes of one history.
mod OneHistory
-- The lemmas of this crate; those for the crates above stand in CallerLemmas.
pub mod CallerLemmas
