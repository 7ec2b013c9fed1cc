-- What the analyst keeps between its steps.
pub mod Workspace
pub mod Searches
pub mod Needs
pub mod AnalystStates
pub mod Stops
pub mod Freeing
pub mod Analysts
pub mod Cores
pub mod Ways
