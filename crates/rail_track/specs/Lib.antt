-- What the contracts of this crate, and the definitions above it, speak of.
pub mod Lists
pub mod KeyCounts
pub mod NetFaults
pub mod Passages
pub mod Joints
pub mod SectionRules
pub mod SoundTracks
pub mod TrackFields
