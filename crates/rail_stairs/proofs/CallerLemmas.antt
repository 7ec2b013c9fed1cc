-- Lemmas for the crates above: what may be cited of this crate beside its definitions and public clauses. The other proof files are private to it.

-- Rooms: a line that may follow what was noted finds room to be noted.
pub use Rattle.rail_stairs.proofs.Rooms.{room_for}
