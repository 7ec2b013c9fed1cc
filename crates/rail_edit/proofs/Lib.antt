-- The lemmas of this crate.
mod Stacks
