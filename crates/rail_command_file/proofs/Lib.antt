-- The lemmas of this crate.
mod PassedLines
mod JoinedLines
