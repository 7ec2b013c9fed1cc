-- What callers see of sets of sections.
pub mod Counts
pub mod Sets
pub mod TrainSets
