-- Lemmas on the engine.
mod Asking
mod Beginning
mod Choosing
mod Continuing
mod DeckNames
mod Desks
mod FollowedLines
mod Offering
mod Trying
