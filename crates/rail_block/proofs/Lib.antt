-- The lemmas of this crate; those for the crates above stand in CallerLemmas.
pub mod CallerLemmas
-- Lemmas on the limits of a plant and on the times that are carried.
mod Limits
mod Carrying
mod Placing
mod Ending
mod Parting
-- When the next move takes over.
mod Taken
