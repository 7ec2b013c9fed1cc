-- What the contracts of this crate, and the definitions above it, speak of.
pub mod Edits
pub mod Inverses
pub mod Editing
pub mod EditorFields
