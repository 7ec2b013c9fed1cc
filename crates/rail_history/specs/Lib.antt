-- What the contracts of this crate, and of the crates above it, speak of.
pub mod Lines
pub mod Pieces
-- Lines of a history that are read.
pub mod HistoryLines
pub mod LineReads
pub mod ReadFiles
pub mod ListItems
pub mod LinesLeft
pub mod ReadWords
