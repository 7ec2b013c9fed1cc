-- Lemmas for the crates above: what may be cited of this crate beside its definitions and public clauses. The other proof files are private to it.

-- Below: the laws below, in the forms in which they are used here.
pub use Rattle.rail_state.proofs.Below.{well_formed_plant}
-- of holders
pub use Rattle.rail_state.proofs.Below.{holders_block}
-- Counting events, and how many there may be.
pub use Rattle.rail_state.proofs.Counts.{count-all}
pub use Rattle.rail_state.proofs.QueueRoom.{bound_small}
-- Next: the first pending event is the least line to come.

-- when the next move is ready, by the times that are carried
pub use Rattle.rail_state.proofs.Next.{carried_ready}
-- Settling: what is decided at an instant at which nothing is due, and when all is settled.

-- what bars a train at a decision is told by the orders and the table of holders
pub use Rattle.rail_state.proofs.Settling.{bar_seen}
-- everything is settled where nothing is due and all were told why they wait
pub use Rattle.rail_state.proofs.Settling.{settled_front}
-- Where some train waits, it may be decided once more who goes: a state that says that not all is settled represents the same front.
pub use Rattle.rail_state.proofs.Settling.{unsettled_stands}
-- Happening: an event line: what it changes.
pub use Rattle.rail_state.proofs.Happening.{event_idle}
-- Happened: the first pending event happens: the run then stands for the front with its line.
pub use Rattle.rail_state.proofs.Happened.{kind}
-- its line may follow
pub use Rattle.rail_state.proofs.Happened.{event_lawful}
-- Where the first pending event has the instant, or all that waits was told why, it may happen: its line may follow, and the state then represents the front with that line.
pub use Rattle.rail_state.proofs.Happened.{happened}
-- Holding: a hold line: what it changes.

-- Where each waiting train has a known cause, the first that was not told of it has its hold line next.
pub use Rattle.rail_state.proofs.Holding.{held}
-- its line may follow
pub use Rattle.rail_state.proofs.Holding.{hold_lawful}
-- a train without a hold line has a known cause
pub use Rattle.rail_state.proofs.Holding.{cause_known}
-- Ending: the end line: what it says, and that nothing changes.

-- With no event pending, and all that waits told why, the end line comes next, with the trains that are not out.
pub use Rattle.rail_state.proofs.Ending.{ended}
-- its line may follow
pub use Rattle.rail_state.proofs.Ending.{end_lawful}
-- Admitting: an admission: that its line may follow.
pub use Rattle.rail_state.proofs.Admitting.{goes_known, kept_is, lawful_line, ready_it}
-- A train that is next, with a list that a run takes, may be admitted.
pub use Rattle.rail_state.proofs.Admitting.{admissible}
-- The train that the policy in force chooses among those whose cause is not known obeys it.
pub use Rattle.rail_state.proofs.Admitting.{chosen_obeys}
-- a train that could go waits without a known cause
pub use Rattle.rail_state.proofs.Admitting.{could_go-untried}
-- a train that is ready has a move left
pub use Rattle.rail_state.proofs.Admitting.{left_of_ready}
-- A train that is next, with a list that a run takes, may be admitted.
pub use Rattle.rail_state.proofs.Admitting.{may_keep}
-- The admission of a train that is next and that the policy in force chooses, by a list that a run takes, continues a run.
pub use Rattle.rail_state.proofs.Admitting.{runs}
-- OwnOverlap: the pending events that give a train's own overlap free.

-- Each section that the train would take over is given free by one pending event at most.
pub use Rattle.rail_state.proofs.OwnOverlap.{taken_once}
-- Admitted: an admission: what it changes.

-- A train that waits and is not barred may be admitted where no hold line was given in the round and the kept list completes after its move, by turn or not: the state then represents the front with that line.
pub use Rattle.rail_state.proofs.Admitted.{admitted_line}
-- Looking: what is found out at an instant without a line.

-- everybody who waits was told why
pub use Rattle.rail_state.proofs.Looking.{all_told}
-- Looking at the trains that wait finds true causes.
pub use Rattle.rail_state.proofs.Looking.{looked_stands}
-- Where no list is known after the move of a train that is next, that is its cause.
pub use Rattle.rail_state.proofs.Looking.{no_list_stands}
-- then all is settled
pub use Rattle.rail_state.proofs.Looking.{settled_stands}
-- Beginning: before the first line.

-- Before the first line, with the ready event of each train's first move pending, a state represents the empty front.
pub use Rattle.rail_state.proofs.Beginning.{begins}
-- Ready: what may be done at the first pending event.

-- What is kept for the first pending event is there: its train is known, the section that it frees has that train as its holder, and the head of a train that enters is at a step of a move.
pub use Rattle.rail_state.proofs.Ready.{ready_for}
-- Deciding: where no pending event has the instant, nothing is due there.

-- Deciding: where no pending event has the instant, nothing is due there.
pub use Rattle.rail_state.proofs.Deciding.{deciding}
-- Commanding: a command that is the first pending event is told.

-- Where the first pending event is that of a command, its line may follow, and the state then represents the front with that line.
pub use Rattle.rail_state.proofs.Commanding.{commanded}
-- its line may follow
pub use Rattle.rail_state.proofs.Commanding.{command_lawful}
-- A pending event of a command is that of one of the commands.
pub use Rattle.rail_state.proofs.Commanding.{listed_command}
-- Judging: an admission is judged by what is kept.
pub use Rattle.rail_state.proofs.Judging.{waits_is}
-- It is decided who goes exactly where no pending event has the instant.
pub use Rattle.rail_state.proofs.Judging.{deciding_is}
-- Whether an admission may follow is told by what is kept.
pub use Rattle.rail_state.proofs.Judging.{judged}
-- Least: the first pending event is the least due line.

-- Taking: what a command's line takes out of the queue.

-- Ceasing: who waits after a command's line.

-- Touching: which causes a command's line leaves.

-- Early: a move that isn't ready has no hold line, unless its train was cancelled.

-- TrainNumbers: two tests that agree below a bound are passed by the same numbers below it.
pub use Rattle.rail_state.proofs.TrainNumbers.{same_pass}
-- CommandEvents: where all events pass a test, a filter by it keeps them.
pub use Rattle.rail_state.proofs.CommandEvents.{all_stay}
