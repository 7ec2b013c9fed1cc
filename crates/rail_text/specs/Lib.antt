-- What the contracts of this crate, and of the crates above it, speak of.
pub mod Lines
pub mod Decimals
pub mod Times
pub mod Minutes
pub mod Writes
pub mod Names
pub mod Words
