-- The lemmas of this crate; those for the crates above stand in CallerLemmas.
pub mod CallerLemmas
mod Starting
mod Going
mod Repairing
mod Room
mod Holding
mod Finding
mod Looking
mod Making
mod Deciding
mod Ordered
mod Commands
mod Judged
mod DueNow
mod Missing
mod Admissions
