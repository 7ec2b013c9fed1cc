-- The lemmas of this crate; those for the crates above stand in CallerLemmas.
pub mod CallerLemmas
mod Items
mod SpacedLines
mod NameWords
mod Parts
mod TimeWords
mod Written
