-- What the contracts of this crate, and the definitions above it, speak of.
pub mod EditLines
pub mod EditFiles
pub mod EditedScenes
