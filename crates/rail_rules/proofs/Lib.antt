-- The lemmas of this crate; those for the crates above stand in CallerLemmas.
pub mod CallerLemmas
-- Lemmas on the words of the definitions, and the laws that the public functions state.
mod Below
mod Members
mod StatesKept
mod Counted
mod Parts
mod Found
mod Unchanged
mod Accepting
mod Claiming
