-- What the contracts of this crate speak of.
pub mod Files
pub mod Places
pub mod Meanings
pub mod Terminals
pub mod Policies
pub mod Explanations
pub mod KeptFiles
