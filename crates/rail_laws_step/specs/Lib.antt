-- Due lines with commands, and how many are due at once.
pub mod KeptLines
pub mod MostDue
-- The holders of sections.
pub mod HolderTables
-- Lines to come, and which section a train's head enters next.
pub mod LinesToCome
pub mod Heads
-- Kinds of lines and boxes, and how far times reach.
pub mod LineKinds
pub mod TimeLimits
