-- What is kept of a ledger, and the front for which that stands.
pub mod Inputs
pub mod DueLines
pub mod Ledgers
