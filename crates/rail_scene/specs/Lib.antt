-- What the contracts of this crate, and the definitions above it, speak of.
pub mod Scenes
pub mod Versions
pub mod Keys
pub mod Fields
pub mod Entries
pub mod Forms
pub mod Values
pub mod Rosters
pub mod SceneItems
pub mod SpelledItems
pub mod SpelledScenes
pub mod Order
pub mod ItemNames
