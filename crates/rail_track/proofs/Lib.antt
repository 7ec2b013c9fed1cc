-- The lemmas of this crate; those for the crates above stand in CallerLemmas.
pub mod CallerLemmas
mod Rolls
mod Tallies
mod Refusals
mod Withouts
mod Soundness
mod SectionAcceptance
mod Inserts
