-- The lemmas of this crate; those for the crates above stand in CallerLemmas.
pub mod CallerLemmas
mod Storing
mod Reading
mod Writing
mod Comparing
mod Telling
mod FirstRefusals
mod OfBytes
