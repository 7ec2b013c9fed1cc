-- The lemmas of this crate; those for the crates above stand in CallerLemmas.
pub mod CallerLemmas
-- Legs, safe legs, and what a search finds.
mod Legs
mod Safe
mod Played
mod Walks
mod Counts
mod SetLemmas
mod SharedRows
mod Holding
mod Clear
mod Backward
mod Stopping
mod Listing
mod Rising
mod Without
mod Freeing
mod Going
mod Falls
mod Moved
mod Noting
mod Marks
mod Aside
mod Cores
mod Lasting
mod Playing
