pub mod Invariant
-- How a lawful front goes on, and the event lines by move and step.
pub mod Views
pub mod EventLines
pub mod Premises
