-- The lemmas of this crate; those for the crates above stand in CallerLemmas.
pub mod CallerLemmas
-- The order of events, which events an insert and a filter keep in their order, and a stable sort.
mod Ordered
mod Kept
mod Filtered
mod Stable
-- How an event finds its place in a chain, how the ring stays one, which chain has the next event, which has it after a push, and what is left without some events, or without the only one that a test lets out.
mod Place
mod Ringed
mod Chosen
mod Leading
mod Marked
mod Removed
mod Single
