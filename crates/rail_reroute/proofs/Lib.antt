-- Lemmas on reroutings.
mod Alike
mod Changed
mod Itineraries
mod JoinedLines
mod Judging
mod OneAnswer
mod Proposed
mod Ready
mod Refused
mod Standing
mod States
mod Exchanged
mod Ranges
