-- The lemmas of this crate; those for the crates above stand in CallerLemmas.
pub mod CallerLemmas
mod RunLines
mod Snapshots
mod WritableLines
mod WrittenLines
mod Following
