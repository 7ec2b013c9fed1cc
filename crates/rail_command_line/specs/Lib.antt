-- What the contracts of this crate, and of the crates above it, speak of.
pub mod Files
pub mod Forms
pub mod Lists
pub mod ListAnswers
pub mod Verbs
