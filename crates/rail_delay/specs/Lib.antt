-- What a report of a history says, what is kept for it, and what a line changes of that.
pub mod Waits
pub mod HeldTimes
pub mod Visits
pub mod Accounts
pub mod Reports
pub mod Noting
pub mod VisitRows
