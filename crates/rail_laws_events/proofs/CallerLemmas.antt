-- Lemmas for the crates above: what may be cited of this crate beside its definitions and public clauses. The other proof files are private to it.

-- Coding: the numbers of a line determine what it says, and so one entry is one by its numbers.
pub use Rattle.rail_laws_events.proofs.Coding.{same_what}
-- entries that are one by their numbers are one
pub use Rattle.rail_laws_events.proofs.Coding.{one_entry}
-- Tallies: counting entries.
pub use Rattle.rail_laws_events.proofs.Tallies.{some-tally, tally-append, tally-le, tally-same, tally-some}
-- a tally of what passes is one of both tests
pub use Rattle.rail_laws_events.proofs.Tallies.{tally-filter}
-- a list splits into what passes a test and what doesn't
pub use Rattle.rail_laws_events.proofs.Tallies.{tally-split}
-- Written: what was written goes on being an event line of the admissions, and nothing is written twice.

-- an event line says what an event line of a train says
pub use Rattle.rail_laws_events.proofs.Written.{event_is_train}
-- no train has more admissions than moves
pub use Rattle.rail_laws_events.proofs.Written.{few_admissions}
-- what was written is an event line of the admissions
pub use Rattle.rail_laws_events.proofs.Written.{written_is_event}
-- Balance: the account: what was written and what is to come are together all event lines.

-- the account of a lawful front
pub use Rattle.rail_laws_events.proofs.Balance.{account}
-- Changing: what each line changes in the account.
pub use Rattle.rail_laws_events.proofs.Changing.{other_change, tally-gather, train_event_change}
-- an admission exchanges the arrival before it and adds the lines of its move
pub use Rattle.rail_laws_events.proofs.Changing.{admission_change}
-- Lines: the kinds of lines.

-- the admissions of all trains together
pub use Rattle.rail_laws_events.proofs.Lines.{admissions_counted}
-- Sums: sums over numbers below a bound, and the length of gathered lists.
pub use Rattle.rail_laws_events.proofs.Sums.{sum-constant, sum-plus}
-- sums that differ by one at one number
pub use Rattle.rail_laws_events.proofs.Sums.{sum-one_more}
-- Shares: how many event lines a train has.
pub use Rattle.rail_laws_events.proofs.Shares.{tally_all}
-- Commands: the line of each command is written once at most.
pub use Rattle.rail_laws_events.proofs.Commands.{command_new, few_written, written_no_less}
-- the line of a command is one that didn't stand
pub use Rattle.rail_laws_events.proofs.Commands.{IsNewCommand}
-- where all stand, there are as many as commands
pub use Rattle.rail_laws_events.proofs.Commands.{all_written}
-- Bounded: a lawful front has no more lines than the bound, hold lines aside.
pub use Rattle.rail_laws_events.proofs.Bounded.{bounded}
-- the event lines and admissions of a front
-- where nothing is to come, every train has made its moves, every command is written and the end line stands, the bound is met
pub use Rattle.rail_laws_events.proofs.Bounded.{met}
-- Cancelled: a cancelled train is never admitted.

-- a cancelled train has no admission
pub use Rattle.rail_laws_events.proofs.Cancelled.{cancelled_never_goes}
-- a told line tells an order that takes effect, and every other line tells none
pub use Rattle.rail_laws_events.proofs.Cancelled.{TellsOne, told_effect, told_tells}
-- SameCauses: the cause of a train's waiting comes from the orders, the admissions, the instant and the kept list alone.
pub use Rattle.rail_laws_events.proofs.SameCauses.{cause_same, place_same}
-- two fronts with the same orders, admissions, instant and kept list
pub use Rattle.rail_laws_events.proofs.SameCauses.{AreAlike}
-- a line at the instant that admits and tells nothing leaves all this
pub use Rattle.rail_laws_events.proofs.SameCauses.{alike_after}
-- HoldLines: no train has more hold lines than there are event lines.
pub use Rattle.rail_laws_events.proofs.HoldLines.{holds_bounded}
-- Rising: the times at which a train enters sections and arrives rise.
pub use Rattle.rail_laws_events.proofs.Rising.{enters_rise, one_enter}
-- Ranked: two due lines with one time, class and number are one.

-- the ready lines of admitted moves stand
pub use Rattle.rail_laws_events.proofs.Ranked.{ready_stood}
-- Once: each time, class and number occurs once among the due lines.
pub use Rattle.rail_laws_events.proofs.Once.{due_once}
-- the entry has this time, class and number
pub use Rattle.rail_laws_events.proofs.Once.{has_rank}
-- Limits: what an accepted plant says of single times.
pub use Rattle.rail_laws_events.proofs.Limits.{limited, sum-limited}
-- the single times of a plant, in tenths of a second
pub use Rattle.rail_laws_events.proofs.Limits.{IsLimited}
-- Reached: how far the times of a lawful front reach.
pub use Rattle.rail_laws_events.proofs.Reached.{arrive_within, depart_within, end_within, enter_within, go_within, out_within, reaches, ready_within, times_below}
-- how far the times of any lawful front reach
pub use Rattle.rail_laws_events.proofs.Reached.{Reaches}
-- what an accepted input says of its plant and of its commands
pub use Rattle.rail_laws_events.proofs.Reached.{input_parts}
