-- Counting event lines, and what an admission changes among them.
pub mod Accounts
pub mod Changes
-- The order of commands.
pub mod CommandOrder
