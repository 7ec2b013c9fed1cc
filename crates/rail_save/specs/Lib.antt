-- What the contracts of this crate, and of the crates above it, speak of.
pub mod RunLines
pub mod Snapshots
pub mod WrittenLines
