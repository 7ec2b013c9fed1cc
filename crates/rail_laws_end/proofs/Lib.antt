-- The lemmas of this crate; those for the crates above stand in CallerLemmas.
pub mod CallerLemmas
-- Lemmas on the end of a history, which the laws above cite.
mod Quiet
mod Alone
mod Ending
-- Lemmas on what bars the trains that remain, which the laws above cite.
mod Reasons
mod Earlier
mod Barred
-- Lemmas on the next line of a lawful front, which the law above cites.
mod Least
mod Starting
mod Progress
mod Continued
-- Lemmas on runs, which the law above cites.
mod Ordered
mod Chosen
mod Steps
mod Compared
mod Resumed
