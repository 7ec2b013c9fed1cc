-- The lemmas of this crate; those for the crates above stand in CallerLemmas.
pub mod CallerLemmas
-- Lemmas on tables of moves, places and the player.
mod Tables
mod Spans
mod Giving
mod Firsts
mod Making
mod Playing
mod Taking
mod LastMoves
mod Joining
