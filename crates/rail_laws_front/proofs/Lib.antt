-- The lemmas of this crate; those for the crates above stand in CallerLemmas.
pub mod CallerLemmas
-- Lemmas on lawful fronts, which the laws above cite.
mod Growing
mod DueFound
mod Timely
mod Unblocked
mod Claimed
mod Standing
mod Apart
mod PlacesKept
mod Due
-- Lemmas on the views, which the laws above cite.
mod Gathered
mod Viewing
mod Indexing
mod Agreeing
mod Adding
mod Accepting
