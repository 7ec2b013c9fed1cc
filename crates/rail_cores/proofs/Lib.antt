-- The lemmas of this crate.
mod Cleared
