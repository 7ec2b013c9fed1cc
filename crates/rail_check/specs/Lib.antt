-- The verdict that is answered.
pub mod Answers
-- Lines that were checked.
pub mod Checkers
