-- Lemmas for the crates above: what may be cited of this crate beside its definitions and public clauses. The other proof files are private to it.

-- Below: tests and sums over the numbers below a bound.
pub use Rattle.rail_rules.proofs.Below.{all_below_at, all_below_from, any_below_at, any_below_found, any_below_from, any_below_none, sum_below-le, sum_below_same}
-- a sum of no greater numbers, one of which is less, is less
pub use Rattle.rail_rules.proofs.Below.{sum_below-lt}
-- Members: numbers in lists.
pub use Rattle.rail_rules.proofs.Members.{apart_at, apart_from, apart_sym, is_in-head, list_all_at, list_any_at, list_any_none}
-- StatesKept: a legal move from a valid state leads to a valid state.
pub use Rattle.rail_rules.proofs.StatesKept.{legal_move_kept, state_from_parts, state_parts}
-- a train stands on sections that its move needed
pub use Rattle.rail_rules.proofs.StatesKept.{stand_needed}
-- Parts: the instants of a blocking interval are in order, and so its parts sum to its length.
pub use Rattle.rail_rules.proofs.Parts.{enter_before_leave, go_after_run, head_time-begun, head_time-le, leave_before_clearing}
-- the head arrives after its free run
pub use Rattle.rail_rules.proofs.Parts.{arrive_after_run}
-- the head enters each section before the end of its run
pub use Rattle.rail_rules.proofs.Parts.{enter_before_run}
-- and its next move, where it has one, doesn't begin before it arrives
pub use Rattle.rail_rules.proofs.Parts.{go_after_arrive}
-- a move begins after its signal
pub use Rattle.rail_rules.proofs.Parts.{start_after_signal}
-- Claiming: the sections that a move claims, and when their intervals end.
pub use Rattle.rail_rules.proofs.Claiming.{claims_are, end_needed, end_over, end_taken, end_timed, freed_from, is_over_from, needed_section, not_over, steps_claimed, taken_from, taken_parts}
-- the next move takes over: it is admitted before the timer runs out, and claims the section
pub use Rattle.rail_rules.proofs.Claiming.{IsTakenOver}
-- a needed section isn't taken over, and nothing is where the next move isn't admitted
pub use Rattle.rail_rules.proofs.Claiming.{last_not_taken, needed_not_taken}
-- Found: trying every list of so many legs finds one exactly where there is one.
pub use Rattle.rail_rules.proofs.Found.{finds_exactly, leg_parts}
-- Unchanged: a line that is no admission changes no event line of an admitted move.
pub use Rattle.rail_rules.proofs.Unchanged.{gather_same}
-- the admissions are those before the line
pub use Rattle.rail_rules.proofs.Unchanged.{admissions_kept}
-- Accepting: a plant that may be run, part by part.
pub use Rattle.rail_rules.proofs.Accepting.{IsAccepted, accepted_parts, list_all_get, from_one}
-- a section within the ranges
pub use Rattle.rail_rules.proofs.Accepting.{IsSectionInRange, section_in_range}
-- a train within the ranges
pub use Rattle.rail_rules.proofs.Accepting.{IsRowInRange, row_in_range}
-- a train's kind within the ranges
pub use Rattle.rail_rules.proofs.Accepting.{IsKindInRange}
-- a move within the ranges
pub use Rattle.rail_rules.proofs.Accepting.{IsMoveInRange, move_in_range}
-- a call within the ranges
pub use Rattle.rail_rules.proofs.Accepting.{IsCallInRange, call_in_range}
