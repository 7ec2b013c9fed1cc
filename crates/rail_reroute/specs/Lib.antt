-- What the contracts of this crate, and the definitions above it, speak of.
pub mod Judgements
pub mod Lines
pub mod Judges
pub mod Proposals
