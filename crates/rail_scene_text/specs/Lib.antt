-- What the contracts of this crate speak of.
pub mod Tables
pub mod FieldTypes
pub mod Rows
