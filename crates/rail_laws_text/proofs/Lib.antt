-- The lemmas of this crate; those for the crates above stand in CallerLemmas.
pub mod CallerLemmas
mod Known
mod Causing
mod Listing
mod Writing
mod Limiting
-- Lemmas on texts, which the laws above cite.
mod Marks
mod Wording
mod Back
mod Injective
mod Naming
