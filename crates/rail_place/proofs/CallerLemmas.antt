-- Lemmas for the crates above: what may be cited of this crate beside its definitions and public clauses. The other proof files are private to it.

-- Tables: reading a table of moves, and adding a train to it.

-- what a valid plan says of a move that isn't the train's last
pub use Rattle.rail_place.proofs.Tables.{move_valid}
-- Making: places that were made for moves: what they tell, and what a move of one train changes.
pub use Rattle.rail_place.proofs.Making.{holder_listed, legal_ahead, made_long}
-- Playing: lists played from one state to another: one move more, one move less, and how long such a list may be.
pub use Rattle.rail_place.proofs.Playing.{played_left, way_back}
-- after a move, the way back is free
pub use Rattle.rail_place.proofs.Playing.{IsWayBack}
-- a train inside is listed
pub use Rattle.rail_place.proofs.Playing.{inside_listed}
-- the standing sets of two trains are apart
pub use Rattle.rail_place.proofs.Playing.{state_apart}
