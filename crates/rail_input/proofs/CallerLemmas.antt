-- Lemmas for the crates above: what may be cited of this crate beside its definitions and public clauses. The other proof files are private to it.

-- OfBytes: a fault that answers the refusal of the plant of a scene refuses no file for its size.
pub use Rattle.rail_input.proofs.OfBytes.{compile_fault}
