-- Lemmas for the crates above: what may be cited of this crate beside its definitions and public clauses. The other proof files are private to it.

-- Judged: the verdict, and the one line beside admissions.
pub use Rattle.rail_laws_verdict.proofs.Judged.{refused_held, refused_next, refused_open}
-- Two lines that may follow, and are no admissions, are one.
pub use Rattle.rail_laws_verdict.proofs.Judged.{one_other}
-- The verdict is yes exactly where the history is lawful to its end; a no names the first line that may not follow, and the law.
pub use Rattle.rail_laws_verdict.proofs.Judged.{judged, yes_means}
-- Something is left to decide where a train could be admitted, and where a hold line may follow; nothing where all is settled.
pub use Rattle.rail_laws_verdict.proofs.Judged.{decided_where_settled, undecided_before_hold, undecided_where_one_goes}
