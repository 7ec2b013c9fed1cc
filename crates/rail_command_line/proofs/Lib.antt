-- The lemmas of this crate; those for the crates above stand in CallerLemmas.
pub mod CallerLemmas
mod FileLists
mod OneMeaning
mod Reading
mod Judging
mod JoinedLines
mod Spelling
