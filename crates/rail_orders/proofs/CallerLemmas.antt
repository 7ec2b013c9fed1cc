-- Lemmas for the crates above: what may be cited of this crate beside its definitions and public clauses. The other proof files are private to it.

-- Before any order the tables are those of no orders.
pub use Rattle.rail_orders.proofs.Tables.{no_orders}
-- After an order is told the tables are those of the orders with it.
pub use Rattle.rail_orders.proofs.Tables.{order_told}
-- Whether an order takes effect is told by the tables.
pub use Rattle.rail_orders.proofs.Tables.{effect_is}
-- That a train is stopped, and which section of a move is closed, is told by the tables.
pub use Rattle.rail_orders.proofs.Tables.{stop_is, closed_is}
