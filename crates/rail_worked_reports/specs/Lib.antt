-- What is printed of worked histories, as computed by hand from the rules.
pub mod Insertions
pub mod Stairways
pub mod Delays
