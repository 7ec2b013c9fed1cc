-- Lemmas for the crates above: what may be cited of this crate beside its definitions and public clauses. The other proof files are private to it.

-- No refusal of a scene is one of a file for its size.
pub use Rattle.rail_scene.proofs.OfBytes.{scene_of_bytes}
-- Segments: two lists of tests none of which fails.
pub use Rattle.rail_scene.proofs.Segments.{both_passed}
-- Locating: a table none of whose tests fails, at its place.
pub use Rattle.rail_scene.proofs.Locating.{located_none}
-- Documents: the document of a text, and its root.
pub use Rattle.rail_scene.proofs.Documents.{document_some, root_is}
-- Whole: a text that is TOML, all of whose forms and values pass, is not refused.
pub use Rattle.rail_scene.proofs.Whole.{none_refused, values_none}
-- Times: the time that a text spells is found.
pub use Rattle.rail_scene.proofs.Times.{reads_some}
