-- Lemmas for the crates above: what may be cited of this crate beside its definitions and public clauses. The other proof files are private to it.

-- OneMeaning: what holds of what the words ask for holds of all that they ask for, and paths that are asked for are bounded.
pub use Rattle.rail_command_line.proofs.OneMeaning.{TellsOneTime, of_all_asked, paths_bounded}
