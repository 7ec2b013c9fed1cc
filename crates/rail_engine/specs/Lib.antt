-- The desk, the offers of a round, that the policy in force was asked, and the front for which an engine stands.
pub mod PolicyTurns
pub mod Desks
pub mod Engines
pub mod FollowedLines
pub mod Rounds
pub mod Starts
