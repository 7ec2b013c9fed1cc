-- Deadlocks, and whether some list completes.
pub mod Locked
