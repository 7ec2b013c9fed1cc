-- The lemmas of this crate.
mod Members
-- The stairs and the bars, and which bar is preferred.
mod StairRanges
mod Preferred
mod Meeting
-- The table.
mod Tidied
mod Tabled
mod Shortness
mod Reached
-- The way to a copy, and copies one after another.
mod Ways
mod Copying
-- What the laws say.
mod Certified
-- Texts that are written one after another.
mod Lines
mod Written
