-- The lemmas of this crate; those for the crates above stand in CallerLemmas.
pub mod CallerLemmas
mod Decks
mod InForce
mod Least
mod Fine
