-- Lemmas for the crates above: what may be cited of this crate beside its definitions and public clauses. The other proof files are private to it.

-- Growing: what a line does to the admissions, the places and the orders.
pub use Rattle.rail_laws_front.proofs.Growing.{told_kept, waiting_parts}
-- an admission is added to the admissions of its train
pub use Rattle.rail_laws_front.proofs.Growing.{admission_added}
-- and to no others
pub use Rattle.rail_laws_front.proofs.Growing.{admission_of_other}
-- an event line is no admission
pub use Rattle.rail_laws_front.proofs.Growing.{event_admits_nothing}
-- what stands goes on standing
pub use Rattle.rail_laws_front.proofs.Growing.{stands_on}
-- a line that tells nothing changes no order
pub use Rattle.rail_laws_front.proofs.Growing.{tells_nothing}
-- who isn't cancelled wasn't
pub use Rattle.rail_laws_front.proofs.Growing.{was_running}
-- DueFound: what is due: an event line of a train that doesn't stand, or the line of a command that doesn't.
pub use Rattle.rail_laws_front.proofs.DueFound.{command_found, due_found, due_from_command, due_from_event, filter_from}
-- the line of a command that doesn't stand
pub use Rattle.rail_laws_front.proofs.DueFound.{IsCommandDue}
-- an event line of a train that doesn't stand
pub use Rattle.rail_laws_front.proofs.DueFound.{IsEventDue}
-- a filter passes a test where both do
pub use Rattle.rail_laws_front.proofs.DueFound.{filter_found}
-- Timely: no line is ever late, and times do not fall.
pub use Rattle.rail_laws_front.proofs.Timely.{timely}
-- an event line after a line that is no admission was one before it
pub use Rattle.rail_laws_front.proofs.Timely.{event_before}
-- what isn't before another entry isn't earlier
pub use Rattle.rail_laws_front.proofs.Timely.{not_earlier}
-- an event line of a train that runs now is one where it ran before
pub use Rattle.rail_laws_front.proofs.Timely.{running_event}
-- one entry has one time
pub use Rattle.rail_laws_front.proofs.Timely.{same_time}
-- times do not fall
pub use Rattle.rail_laws_front.proofs.Timely.{times_rise}
-- Unblocked: what the admission of a move says of the sections that it claims.

-- neither of two where their first isn't there
pub use Rattle.rail_laws_front.proofs.Unblocked.{neither}
-- which steps may bar a train: the needed ones, and all but those of the overlap of the train's own last move
pub use Rattle.rail_laws_front.proofs.Unblocked.{bars_claimed, needed_bars, other_bars}
-- Claimed: the sections that a move claims, by step.
pub use Rattle.rail_laws_front.proofs.Claimed.{claimed_step, step_claimed}
-- Standing: a train stands on needed sections alone, and on none of an overlap.
pub use Rattle.rail_laws_front.proofs.Standing.{over_not_open}
-- Apart: blocking intervals of one section never overlap.
pub use Rattle.rail_laws_front.proofs.Apart.{never_overlap}
-- PlacesKept: the places of a lawful front are a valid state from which the kept list completes.
pub use Rattle.rail_laws_front.proofs.PlacesKept.{get_or-listed, kept_completes, places_long}
-- a line that is no admission leaves the kept list
pub use Rattle.rail_laws_front.proofs.PlacesKept.{kept_idle}
-- how many items are listed, and which
pub use Rattle.rail_laws_front.proofs.PlacesKept.{length-listed}
-- the place of a train in the places of a front
pub use Rattle.rail_laws_front.proofs.PlacesKept.{place_in}
-- where a line is no admission the places stay
pub use Rattle.rail_laws_front.proofs.PlacesKept.{places_idle}
-- an admission raises the place of its train
pub use Rattle.rail_laws_front.proofs.PlacesKept.{places_raised}
-- a move that nothing bars is legal
pub use Rattle.rail_laws_front.proofs.PlacesKept.{unbarred_legal}
-- a train that waits is one of the plant's
pub use Rattle.rail_laws_front.proofs.PlacesKept.{waiting_known}
-- Due: which lines are due: free lines, ready lines, and what an admission adds.
pub use Rattle.rail_laws_front.proofs.Due.{are_standing, same_entry_refl}
-- at an instant at which trains are admitted nothing else is due
pub use Rattle.rail_laws_front.proofs.Due.{deciding_quiet}
-- the free line of an interval that ends after the instant is due
pub use Rattle.rail_laws_front.proofs.Due.{free_due}
-- an event line of a lawful front stands or is due
pub use Rattle.rail_laws_front.proofs.Due.{stands_or_due}
-- Gathered: tests over lists that are gathered or joined.
pub use Rattle.rail_laws_front.proofs.Gathered.{append_cases, append_none, gather_found, gather_from, one_found}
-- an element that passes a test passes another one too, or the other fails there
pub use Rattle.rail_laws_front.proofs.Gathered.{both_found}
-- Viewing: a line may follow a front exactly where it follows as an event, an admission, a hold or the end.
pub use Rattle.rail_laws_front.proofs.Viewing.{lawful_last, not_ended, viewed}
-- the last line of a lawful front follows the lawful lines before it
pub use Rattle.rail_laws_front.proofs.Viewing.{lawful_before}
-- and so can't be admitted
pub use Rattle.rail_laws_front.proofs.Viewing.{never_goes}
-- Indexing: an event line stands in the list of a train's event lines exactly where it is one by move and step.
pub use Rattle.rail_laws_front.proofs.Indexing.{event_found, event_from, front_event_found}
-- the event lines of all trains
pub use Rattle.rail_laws_front.proofs.Indexing.{PassesIn}
-- Agreeing: the times of a move depend on the admissions so far alone.
pub use Rattle.rail_laws_front.proofs.Agreeing.{arrive_agrees, end_agrees, end_inner_agrees, enter_agrees, free_run_agrees, is_added, length_added, ready_agrees, stop_agrees, taken_agrees, unfreed_agrees}
-- two lists of admissions have the same first k admissions
pub use Rattle.rail_laws_front.proofs.Agreeing.{Agree}
-- the admission that was added
pub use Rattle.rail_laws_front.proofs.Agreeing.{admitted_added}
-- more admissions agree with those that they were added to
pub use Rattle.rail_laws_front.proofs.Agreeing.{agree_added}
-- Adding: what one more admission of a train adds to its event lines and leaves of its intervals.
pub use Rattle.rail_laws_front.proofs.Adding.{arrives_passing, arrives_stopping, end_after_begin, end_kept, go_after_admission, KeepsEnd, last_does_stand, not_admitted, passes_before_stop, passes_unadmitted, run_after_go}
-- Accepting: a plant that may be run is fine.
pub use Rattle.rail_laws_front.proofs.Accepting.{well_formed_from_accepted}
-- a train with a move is one of the plant's
pub use Rattle.rail_laws_front.proofs.Accepting.{known_train}
