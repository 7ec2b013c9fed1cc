-- Lemmas on what the plant of a scene is, and why a scene is refused when it is compiled.
pub mod CallerLemmas
mod Finds
mod Ways
mod Places
mod Routes
mod Names
mod Trains
mod Moves
mod Tables
