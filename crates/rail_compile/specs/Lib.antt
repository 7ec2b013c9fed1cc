-- What the contracts of this crate, and the definitions above it, speak of.
pub mod Itineraries
pub mod Refusals
pub mod RowTypes
pub mod Ways
