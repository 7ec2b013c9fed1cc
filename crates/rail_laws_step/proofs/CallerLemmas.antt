-- Lemmas for the crates above: what may be cited of this crate beside its definitions and public clauses. The other proof files are private to it.

-- Staying: which event lines of a train stay under orders.
pub use Rattle.rail_laws_step.proofs.Staying.{kept_both}
-- Split: how each line changes what is due.

-- What is due: the lines to come that stay under the orders told, and the commands' lines.
pub use Rattle.rail_laws_step.proofs.Split.{due_split}
-- Sorts: how each line changes what is due.
pub use Rattle.rail_laws_step.proofs.Sorts.{command_idle, train_event_no_command}
-- Happening: how each line changes what is due.

-- An event line of a train takes itself out of the due lines, and nothing else changes.
pub use Rattle.rail_laws_step.proofs.Happening.{event_left}
-- A hold line and the end line leave the due lines as they are.
pub use Rattle.rail_laws_step.proofs.Happening.{other_left}
-- Telling: how each line changes what is due.

-- The line of a command takes itself out of the due lines, and a told cancel the ready line of its train.
pub use Rattle.rail_laws_step.proofs.Telling.{command_gone}
-- Admitting: how each line changes what is due.

-- An admission takes the arrival before it out of the due lines and adds what comes with its move.
pub use Rattle.rail_laws_step.proofs.Admitting.{admission_due}
-- Pending: how many lines are due at once.

-- No more lines are due than three for each section, two for each train and one for each command.
pub use Rattle.rail_laws_step.proofs.Pending.{few_due}
-- HoldersKept: the table of holders from line to line.

-- Before the first line nobody holds a section.
pub use Rattle.rail_laws_step.proofs.HoldersKept.{at_first}
-- A free line names the holder of its section, whom it takes out of the table.
pub use Rattle.rail_laws_step.proofs.HoldersKept.{frees_one}
-- Lines that are neither free lines nor admissions leave the holders as they are.
pub use Rattle.rail_laws_step.proofs.HoldersKept.{kept}
-- The table after a train takes sections: it is as long as before, and the holders of other sections stay.
pub use Rattle.rail_laws_step.proofs.HoldersKept.{taken_long, taken_out}
-- Blocking: at a decision the holders are the blockers.

-- So the first section that is blocked for a train, and by whom, is told by the table of holders and the train's own overlap.
pub use Rattle.rail_laws_step.proofs.Blocking.{blocked_is}
-- Owning: the overlap of a train's last admitted move, and that admissions come in order.

-- An interval that there is isn't empty.
pub use Rattle.rail_laws_step.proofs.Owning.{interval_lasts}
-- A section of a train's own overlap is that of a step behind the needed ones of its last admitted move.
pub use Rattle.rail_laws_step.proofs.Owning.{IsOwnStep, own_step}
-- Taking: the table of holders after an admission.

-- An admission over sections whose holders don't bar its train makes the train their holder.
pub use Rattle.rail_laws_step.proofs.Taking.{takes}
-- A train that passes still holds its whole own overlap.
pub use Rattle.rail_laws_step.proofs.Taking.{passing_holds}
-- So the free lines of the own overlap after an admission are those of the sections that aren't taken over, at the end of the timer.
pub use Rattle.rail_laws_step.proofs.Taking.{overlap_frees_after}
-- OneFree: the free line of an overlap that is still held.

-- Of a section of its own overlap that a train still holds, the free line is the only one of the section that is due.
pub use Rattle.rail_laws_step.proofs.OneFree.{one_free_due}
-- Coming: without commands what is due is what is to come; how much that is, and what it is.

-- A line to come is an event line of a train of the plant that does not stand in the front.
pub use Rattle.rail_laws_step.proofs.Coming.{to_come_found}
-- An event line of a train of the plant that does not stand in the front is to come.
pub use Rattle.rail_laws_step.proofs.Coming.{to_come_from}
-- Heads: which section a train's head enters next.

-- The enter line of the step at which a head is moves it to the step behind.
pub use Rattle.rail_laws_step.proofs.Heads.{head_enters}
-- At first no train has entered a section.
pub use Rattle.rail_laws_step.proofs.Heads.{head_first}
-- Every line but an enter line of the train leaves its head where it is, also an admission of it.
pub use Rattle.rail_laws_step.proofs.Heads.{head_kept}
-- The enter line of a train before which none of its enter lines is to come is that of the step at which its head is.
pub use Rattle.rail_laws_step.proofs.Heads.{next_enter}
-- Before the first line no train is ready.
pub use Rattle.rail_laws_step.proofs.Readiness.{nobody_ready}
-- A ready line is that of the next move of its train, at its ready time; the train was not ready before, and is so after it.
pub use Rattle.rail_laws_step.proofs.Readiness.{ready_by_line}
-- A train that is ready has its ready time behind it.
pub use Rattle.rail_laws_step.proofs.Readiness.{ready_is_past}
-- a line that leaves the admissions and the orders, and is no ready line of the train
pub use Rattle.rail_laws_step.proofs.Readiness.{ready_same}
-- After its admission a train is not ready; all others stay as they were.
pub use Rattle.rail_laws_step.proofs.Readiness.{unready_by_admission}
-- Holding: what hold lines say, and when everything is settled.

-- an event line is no hold line
pub use Rattle.rail_laws_step.proofs.Holding.{event_holds_nothing}
-- A hold line is the last one of its move.
pub use Rattle.rail_laws_step.proofs.Holding.{held_last}
-- A hold line leaves the cause on the last hold line of every other move.
pub use Rattle.rail_laws_step.proofs.Holding.{held_other}
-- Where each ready train has a cause, the first of them whose last hold line does not name its cause is next to have a hold line.
pub use Rattle.rail_laws_step.proofs.Holding.{hold_due}
-- A line that is no admission leaves the place of a train, whether its repaired list completes, and whether a list is known after its admission.
pub use Rattle.rail_laws_step.proofs.Holding.{list_cause_kept}
-- No hold line names a move after the next one of its train.
pub use Rattle.rail_laws_step.proofs.Holding.{no_later_hold}
-- Everything is settled where nothing is due at the instant and each ready train has a cause that its last hold line names.
pub use Rattle.rail_laws_step.proofs.Holding.{settled_where_told}
-- A line that is no hold line leaves the cause on the last hold line of a move.
pub use Rattle.rail_laws_step.proofs.Holding.{unheld}
-- Following: a line that has what a view asks for may follow.

-- An admission may follow a front that has not ended.
pub use Rattle.rail_laws_step.proofs.Following.{admits_follows}
-- The end line may follow a front that has not ended.
pub use Rattle.rail_laws_step.proofs.Following.{ends_follows}
-- An event line that happens may follow a front that has not ended.
pub use Rattle.rail_laws_step.proofs.Following.{happens_follows}
-- A hold line may follow a front that has not ended.
pub use Rattle.rail_laws_step.proofs.Following.{holds_follows}
-- RunFronts: run fronts: what continues a run.

-- A line of a run continues it where it may follow.
pub use Rattle.rail_laws_step.proofs.RunFronts.{run_continued}
-- A line that is no admission continues a run where it may follow.
pub use Rattle.rail_laws_step.proofs.RunFronts.{run_idle}
-- A run front is lawful.
pub use Rattle.rail_laws_step.proofs.RunFronts.{run_lawful}
-- Remaining: which trains are out, and which remain.

-- Before the first line no train is out.
pub use Rattle.rail_laws_step.proofs.Remaining.{nobody_out}
-- After its out line a train is out.
pub use Rattle.rail_laws_step.proofs.Remaining.{out_by_line}
-- A line that is no out line of a train leaves whether it is out.
pub use Rattle.rail_laws_step.proofs.Remaining.{out_kept}
-- Bounded: how far the times of a train reach in a lawful front.

-- The times of each train in a lawful front of an input that may be run are below 2^51 tenths of a second, also those that no line has reached yet.
pub use Rattle.rail_laws_step.proofs.Bounded.{stays_below}
