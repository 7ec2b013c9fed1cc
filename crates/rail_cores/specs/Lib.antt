-- Trains that stand alone, and what searches for them.
pub mod Alones
-- The searcher.
pub mod Searchers
