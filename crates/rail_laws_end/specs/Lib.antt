pub mod Remaining
-- For which orders those wait that remain.
pub mod Barred
-- When two run histories are one.
pub mod Forks
