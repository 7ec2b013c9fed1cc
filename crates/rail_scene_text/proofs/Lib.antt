-- The lemmas of this crate.
mod Putting
mod Texts
mod Reading
mod Lists
mod Sections
mod Posts
mod Ways
mod Trains
mod Depths
mod Roots
mod Whole
