-- The lemmas of this crate; those for the crates above stand in CallerLemmas.
pub mod CallerLemmas
mod Staying
mod Commands
mod Split
mod Sorts
mod Happening
mod Telling
mod DueAndToCome
mod Admitting
-- Lemmas on the holders of sections, which the laws cite.
mod Amounts
mod Frees
mod HoldersKept
mod Owning
mod Blocking
mod Taking
mod HoldersThere
-- Lemmas on lines to come, how many are due at once, and the heads of trains, which the laws above cite.
mod Coming
mod Pending
mod OneFree
mod Heads
-- Lemmas on which trains are ready, what hold lines say and which line may follow, which the laws above cite.
mod ReadyLines
mod Readiness
mod Holding
mod Following
mod RunFronts
mod Remaining
mod Bounded
