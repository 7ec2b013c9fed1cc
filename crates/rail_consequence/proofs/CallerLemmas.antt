-- Lemmas for the crates above: what may be cited of this crate beside its definitions and public clauses. The other proof files are private to it.

-- Legs: which moves stay legal, and trains inside by their places.
pub use Rattle.rail_consequence.proofs.Legs.{inside_from, inside_parts, inside_same, legal_kept, nobody_at}
-- Safe: a leg is safe exactly where no other train inside needs its last standing set later.
pub use Rattle.rail_consequence.proofs.Safe.{clear_from_safe, safe_from_clear, stand_out}
-- Counts: how often a number stands in a list, number by number.
pub use Rattle.rail_consequence.proofs.Counts.{times-cons}
-- the number that is read at an index stands in the list
pub use Rattle.rail_consequence.proofs.Counts.{in_at}
-- Aside: the sets of one train alone, for the moves of all
pub use Rattle.rail_consequence.proofs.Aside.{rows_for}
-- Cores: nothing is found from the state of a core, nor behind a move of a train that is none of it.
pub use Rattle.rail_consequence.proofs.Cores.{core_behind, core_none}
-- Lasting: a core is one behind a safe leg, too.
pub use Rattle.rail_consequence.proofs.Lasting.{core_leg}
