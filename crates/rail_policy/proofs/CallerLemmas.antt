-- Lemmas for the crates above: what may be cited of this crate beside its definitions and public clauses. The other proof files are private to it.

-- The policy that is found by its name has the name, and one of a name that the desk has is found.
pub use Rattle.rail_policy.proofs.InForce.{name-index_of, index_of-found}
-- Without a policy that isn't in force the same one is in force.
pub use Rattle.rail_policy.proofs.InForce.{seat_in_force-without}
-- The names of a deck that can be handed to a desk: 1 to 16, none of which stands twice.
pub use Rattle.rail_policy.proofs.Fine.{fine_names}
