-- The lemmas of this crate, all private to it.
mod AllRecords
mod FiveFields
mod Standing
mod LaterRecords
mod SpelledCalls
