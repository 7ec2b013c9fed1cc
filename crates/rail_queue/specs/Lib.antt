-- Which of two events comes first, what a queue is to its callers, and how its events lie in chains.
pub mod Order
pub mod Queue
pub mod Ring
pub mod Walk
pub mod Choice
pub mod Marks
pub mod Removal
