-- Lemmas for the crates above: what may be cited of this crate beside its definitions and public clauses. The other proof files are private to it.

-- Rolls: items in order beside the list of their keys.
pub use Rattle.rail_track.proofs.Rolls.{found_item, list_any-map}
-- Tallies: names, and how often each is counted.
pub use Rattle.rail_track.proofs.Tallies.{same_from_name, same_name-comm, same_name-self}
-- Refusals: the tests of the items of a list, one by one.
pub use Rattle.rail_track.proofs.Refusals.{passed_at, refused_at}
-- the first refusal answers itself
pub use Rattle.rail_track.proofs.Refusals.{answers_first}
-- a test that fails less often passes where the other does
pub use Rattle.rail_track.proofs.Refusals.{passes_too}
-- Withouts: a list without its first item that passes a test.
pub use Rattle.rail_track.proofs.Withouts.{are_distinct-push, count_by-without, count_by-without-le, find_passes, length-without-le, list_all-without, without-absent}
-- whether an item passes, by the number of those that do
pub use Rattle.rail_track.proofs.Withouts.{count_by_none}
-- some item passes where more than none do
pub use Rattle.rail_track.proofs.Withouts.{list_any-count_by}
-- Soundness: sound tracks stay sound.
pub use Rattle.rail_track.proofs.Soundness.{accepted, sections_at-push}
-- what the tests of an accepted section say of it
pub use Rattle.rail_track.proofs.Soundness.{IsAccepted}
-- a test that no name passes is failed by each name that is there
pub use Rattle.rail_track.proofs.Soundness.{fails_at}
-- a joint that is not full is in one section at most
pub use Rattle.rail_track.proofs.Soundness.{one_more}
-- Acceptance: an item of a list, and those before it.
pub use Rattle.rail_track.proofs.SectionAcceptance.{distinct_before, count_before, none_before}
-- the sections of a sound track are accepted in their order
pub use Rattle.rail_track.proofs.SectionAcceptance.{accepted_after}
-- Inserts: a list with an item put in at a place.
pub use Rattle.rail_track.proofs.Inserts.{count_by-insert, find-insert, without-insert}
-- an item that was taken out stood at the place where it was found
pub use Rattle.rail_track.proofs.Inserts.{stood_at}
-- what holds of all items holds of the one that was put in
pub use Rattle.rail_track.proofs.Inserts.{all_inserted}
-- what a result that is no fault says
pub use Rattle.rail_track.proofs.Inserts.{on_ok}
-- an item of a list whose items are apart is apart from all others
pub use Rattle.rail_track.proofs.Inserts.{fresh_from}
