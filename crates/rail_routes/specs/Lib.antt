-- What the contracts of this crate, and the definitions above it, speak of.
pub mod Net
pub mod PostRules
pub mod TurnRules
pub mod RouteRules
pub mod Uses
pub mod PostFields
pub mod SectionRules
pub mod NetworkFields
pub mod PostChanges
pub mod DistinctNetworks
pub mod SoundNetworks
