-- Lemmas for the crates above: what may be cited of this crate beside its definitions and public clauses. The other proof files are private to it.

-- Finds: what all items of a list pass, each does.
pub use Rattle.rail_compile.proofs.Finds.{all_at}
-- Moves: an itinerary has a move for each route.
pub use Rattle.rail_compile.proofs.Moves.{length-moves_over}
-- Names: items of different names have distinct names.
pub use Rattle.rail_compile.proofs.Names.{distinct_from_apart}
-- Trains: the tests of a train, with what they look at; a train that is not refused has a known kind and known routes.
pub use Rattle.rail_compile.proofs.Trains.{IsUnrefused, train_is, unrefused_at}
-- the row of a train that is not refused is within the ranges
pub use Rattle.rail_compile.proofs.Tables.{row_fine}
