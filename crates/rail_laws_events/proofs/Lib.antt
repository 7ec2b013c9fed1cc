-- The lemmas of this crate; those for the crates above stand in CallerLemmas.
pub mod CallerLemmas
-- Lemmas on the account, which the laws above cite.
mod Coding
mod Tallies
mod Distinct
mod Written
mod Balance
mod Changing
-- Lemmas on the number of lines, which the laws above cite.
mod Sums
mod Lines
mod Shares
mod Commands
mod Cancelled
mod Bounded
mod SameCauses
mod HoldLines
-- Lemmas on due lines, which the law above cites.
mod Rising
mod Ranked
mod Once
mod InOrder
-- Lemmas on how far times may rise, which the law above cites.
mod Limits
mod Reached
