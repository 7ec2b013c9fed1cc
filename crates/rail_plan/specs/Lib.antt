-- Which tables are planned and why not, and which calls belong to them.
pub mod Alike
pub mod PlanFaults
pub mod CallTables
pub mod PlantFields
pub mod MoveTables
pub mod MoveLineCounts
