-- Which law a line breaks, and the verdict on a history.
pub mod Verdicts
pub mod Laws
