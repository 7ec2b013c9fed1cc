-- How long a train takes over a section.
pub mod RunningTimes
-- Which times a move carries to the next one.
pub mod CarriedTimes
pub mod Steps
pub mod KnownMoves
