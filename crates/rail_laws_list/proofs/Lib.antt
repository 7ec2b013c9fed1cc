-- The lemmas of this crate; those for the crates above stand in CallerLemmas.
pub mod CallerLemmas
mod Unlocked
mod Depths
