-- What the contracts of this crate, and of the crates above it, speak of.
pub mod Orders
pub mod Commands
pub mod LineAnswers
