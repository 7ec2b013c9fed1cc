-- Lemmas for the crates above: what may be cited of this crate beside its definitions and public clauses. The other proof files are private to it.

-- Naming: names in order, of which no two are the same.

-- a set of the names before an index, with the name at the index
pub use Rattle.rail_plan.proofs.Naming.{inserted}
-- OtherRows: what of tables does not depend on the rows of their trains, and what depends on the row of one alone

-- the shortest end of a route, how a train is spelled, and its fault at a place
pub use Rattle.rail_plan.proofs.OtherRows.{fault_same, spelled_same}
-- Spelled: the table that tables spell has their moves
pub use Rattle.rail_plan.proofs.Spelled.{moves_spelled}
