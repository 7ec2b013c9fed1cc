-- The lemmas of this crate; those for the crates above stand in CallerLemmas.
pub mod CallerLemmas
mod LineBounds
mod Histories
mod Barring
mod Endings
mod Progress
mod InfraTexts
mod Writes
mod Lists
mod Migrations
mod Answers
mod Reroutings
mod ThreeFiles
mod TwoFiles
mod CheckAnswers
mod SnapshotAnswers
mod PastAnswers
mod Parts
mod Reading
mod ScenarioAnswers
mod Behind
mod NotedRuns
mod Summaries
mod Pieces
mod CapacityTexts
mod Studies
mod Completing
