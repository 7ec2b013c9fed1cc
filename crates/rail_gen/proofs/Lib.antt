-- The lemmas of this crate.
mod LineAccepted
mod Itineraries
mod MadeTrains
mod Compiled
mod Made
mod Spellings
mod Ranges
mod Turns
