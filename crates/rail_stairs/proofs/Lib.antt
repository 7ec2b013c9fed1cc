-- The lemmas of this crate; those for the crates above stand in CallerLemmas.
pub mod CallerLemmas
-- What is noted, and what it says of the times.
mod Noting
mod Ready
mod Rooms
mod Ending
mod Conflicts
mod TimelyIntervals
mod Carried
-- Lists that are gathered, tables that count them, and texts that are written part by part.
mod Gathered
mod There
mod Has
mod OpenIntervals
mod Counts
mod Before
mod Tallied
mod Written
