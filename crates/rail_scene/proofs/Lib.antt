-- Lemmas on what a scene spells and why it is refused; those for the crates above stand in CallerLemmas.
pub mod CallerLemmas
mod Segments
mod Locating
mod Times
mod Views
mod FormSteps
mod FormWalk
mod MemberWalk
mod Steps
mod Drafting
mod Distinct
mod Documents
mod Whole
mod Spelled
mod OfBytes
mod TomlRests
mod TomlLists
mod ItemNumbers
