-- The lemmas of this crate; those for the crates above stand in CallerLemmas.
pub mod CallerLemmas
-- Lemmas on the faults of tables, on what they spell, and on calls.
mod Fine
mod Standings
mod Firsts
mod Valid
mod Spelled
mod Naming
mod OtherRows
mod AlikeTrains
mod CallRows
mod Accepting
