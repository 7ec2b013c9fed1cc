-- Lemmas for the crates above: what may be cited of this crate beside its definitions and public clauses. The other proof files are private to it.

-- a move has few steps
pub use Rattle.rail_block.proofs.Limits.{few_steps}
