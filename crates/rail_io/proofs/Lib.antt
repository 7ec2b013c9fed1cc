-- The lemmas of this crate; those for the crates above stand in CallerLemmas.
pub mod CallerLemmas
-- Lemmas on the definitions of this crate, for the crates above too.
mod Added
mod Moved
mod Told
