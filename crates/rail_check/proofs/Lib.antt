-- The lemmas of this crate; those for the crates above stand in CallerLemmas.
pub mod CallerLemmas
mod SoFar
mod TakenLines
mod Printed
mod Passed
mod Following
