-- What a table of moves spells, what places tell, and what the player answers.
pub mod Tables
pub mod PlaceStates
pub mod Bars
pub mod Owners
pub mod Plays
pub mod Overlaps
pub mod Holdings
pub mod Room
pub mod Lasts
pub mod Lists
