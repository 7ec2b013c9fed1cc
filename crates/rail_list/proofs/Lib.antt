-- The lemmas of this crate; those for the crates above stand in CallerLemmas.
pub mod CallerLemmas
-- Lemmas on repaired lists, and the law that a public function states.
mod Pulling
mod SideBySide
mod MovedBack
mod Beside
mod MovesLeft
mod Needing
mod Turns
mod Appending
mod Trying
-- Lemmas on fresh lists and on taking the move back, and the law that a public function states.
mod Remaining
mod Finding
mod Unfound
mod Behind
mod Failing
