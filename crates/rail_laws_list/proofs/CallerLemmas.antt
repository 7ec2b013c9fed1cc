-- Lemmas for the crates above: what may be cited of this crate beside its definitions and public clauses. The other proof files are private to it.

-- Unlocked: where a list completes no trains lock each other.
pub use Rattle.rail_laws_list.proofs.Unlocked.{none_locked}
-- a train inside is listed
pub use Rattle.rail_laws_list.proofs.Unlocked.{inside_listed}
-- Depths: where legs bring every train inside to its exit, their moves do so as well.
pub use Rattle.rail_laws_list.proofs.Depths.{unrolled}
