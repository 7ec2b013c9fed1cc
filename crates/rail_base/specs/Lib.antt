-- What the contracts of this crate, and the definitions above it, speak of.
pub mod Limits
pub mod NameForms
pub mod NameFields
pub mod Clock
pub mod Refusals
pub mod FirstRefusals
pub mod Lists
