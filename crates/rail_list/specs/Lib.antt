-- The kept list: what it holds, for which moves it has room, and what stands before a train.
pub mod KeptLists
-- The kept list repaired for an admission, or a fresh one.
pub mod Repairs
pub mod GivenLists
pub mod Failures
