-- The lemmas of this crate; those for the crates above stand in CallerLemmas.
pub mod CallerLemmas
mod Places
mod Uses
mod Removals
mod Tables
mod Extensions
mod Leading
mod Distinctness
mod Lists
mod Kept
mod SectionChanges
mod PostChanges
mod WayChanges
mod SectionAcceptance
mod PostAcceptance
mod WayAcceptance
mod Puts
mod Restorings
