-- The lemmas of this crate.
mod JoinedLines
mod Steps
mod FileOrder
