-- The lemmas of this crate; those for the crates above stand in CallerLemmas.
pub mod CallerLemmas
-- ---- the events of moves and commands
-- Events counted by a test, and the lines that they are.
mod Counting
-- The events of commands: counted by a test, and those that an order leaves.
mod CommandEvents
-- When a head leaves a section on which its train does not stand, how a move ends, and which lines that gives.
mod Leaving
-- ---- the list of trains, the sets that tell who of them is to be looked at, and what is done to each of a set
-- The numbers below a bound that pass a test, in order.
mod TrainNumbers
-- The numbers of the trains that are neither out nor cancelled, gathered one after the other.
mod TrainsChanged
-- At first no train is blocked anywhere.
mod Blocked
-- The sets of the trains that pass a test, while trains are written, and the table of those blocked at a section.
mod Sets
-- Trains that are changed one after the other, as they are taken out of a set.
mod Turned
-- The first untried one of the trains that are looked at one after the other.
mod First
-- What a section that is free again, an order and an admission make of the trains.
mod ChangeableCauses
-- ---- what a run stands for, which the laws cite
-- The laws of the crates below, in the forms in which they are used here.
mod Below
-- The parts of a train's state that a line leaves as they are.
mod Fields
-- The times that are carried from move to move, after a line that is no admission.
mod Times
-- The pending events and the deferred arrivals, after an event happened.
mod Pending
-- The time of an event, which of two goes first by it, and causes told apart.
mod LineCodes
-- Counting events: lists put together, and tests that agree or are split.
mod Counts
-- The first pending event is the least line to come.
mod Next
-- What is decided at an instant at which nothing is due, and when all is settled.
mod Settling
-- Which lines are free, ready, enter and out lines.
mod Lines
-- What an event line changes of what is kept of a train.
mod Changed
-- Causes by the table of holders, after a section is given free.
mod Freed
-- Whether the holder of a section bars a train whose own overlap it may be.
mod Barring
-- What bars a train among some sections, by the first of them that somebody holds.
mod FirstHeld
-- The events that give sections free, as lines and by number.
mod FreeEvents
-- The pending events that give a train's own overlap free.
mod OwnOverlap
-- The lines that an admission changes: the arrival before it, and the lines that give overlaps free.
mod OverlapLines
-- Trains that are known to be blocked at the first section of their next move, and how long that stays so.
mod FirstSections
-- Causes by the table of holders, after a train takes sections.
mod Outlasting
-- What an event line changes.
mod Happening
-- The first pending event happens: the run then stands for the front with its line.
mod Happened
-- What a hold line changes.
mod Holding
-- What the end line says, and that it changes nothing.
mod Ending
-- The line of an admission may follow.
mod Admitting
-- What an admission changes.
mod Admitted
-- What is found out about the waiting trains at an instant, without a line.
mod Looking
-- A run before its first line.
mod Beginning
-- What may be done at the first pending event.
mod Ready
-- Where no pending event has the instant, nothing is due there.
mod Deciding
-- A command is told: the run then stands for the front with its line.
mod Telling
-- The causes that a run sees, after lines that tell nothing.
mod Seen
-- A command that is the first pending event is told.
mod Commanding
-- An admission is judged by what is kept of the trains.
mod Judging
-- Events told apart, and their order.
mod EventCodes
-- The first pending event is the least due line.
mod Least
-- What the line of a command takes out of the queue.
mod Taking
-- Who waits after the line of a command.
mod Ceasing
-- Which causes the line of a command leaves as they are.
mod Touching
-- A move that is not ready has no hold line, unless its train was cancelled.
mod Early
-- A train is given its next move: the sections that it takes, and the events of the move.
mod GivenMoves
-- What an event says, by its class.
mod EventClasses
-- How small the bound on the lines of a plant is.
mod QueueRoom
