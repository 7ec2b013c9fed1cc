-- What the contracts of this crate, and of the crates above it, speak of.
pub mod FaultCounts
pub mod Writes
pub mod Reads
pub mod File
pub mod KeptFiles
pub mod Paper
pub mod MemoryShelf
pub mod MemorySink
pub mod SureFiles
pub mod DripFiles
pub mod SystemFiles
pub mod Room
pub mod GatheredSink
pub mod Whole
