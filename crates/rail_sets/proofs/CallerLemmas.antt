-- Lemmas for the crates above: what may be cited of this crate beside its definitions and public clauses. The other proof files are private to it.

-- where the sections of a set stand
pub use Rattle.rail_sets.proofs.Words.{has_within, none_in_zeros, has_first}
-- a set of no words has no train
pub use Rattle.rail_sets.proofs.TrainSetLemmas.{no_train}
