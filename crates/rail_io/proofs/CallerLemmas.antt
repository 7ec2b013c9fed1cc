-- Lemmas for the crates above: what may be cited of this crate beside its definitions and public clauses. The other proof files are private to it.

-- Added: what several writes in a row add.

-- two writes in a row add both
pub use Rattle.rail_io.proofs.Added.{Adds-append}
-- what stays adds nothing
pub use Rattle.rail_io.proofs.Added.{Adds-same}
-- a write of all, and then of a first part, add a first part of both
pub use Rattle.rail_io.proofs.Added.{AddsPrefix-append}
-- a first part of a piece is a first part of what begins with the piece
pub use Rattle.rail_io.proofs.Added.{AddsPrefix-more}
