-- Blocking intervals and their parts.
use Rattle.std.specs.Prelude.{ℕ, suc, ◌+◌, ◌-◌, ◌≤◌, ◌==◌, Bool, not, ◌&&◌, ◌||◌, cond, nat_lt, nat_le, List, length, Option, Some, None}
use Rattle.rail_base.specs.declared.intervals.Interval.{Interval}
use Rattle.rail_base.specs.declared.intervals.Parts.{Parts}
use Rattle.rail_rules.specs.Numbers.{any_below, is_in}
use Rattle.rail_rules.specs.Moves.{stand}
use Rattle.rail_rules.specs.Plant.{Plant, moves_of, move_row, steps, claims, claimed, step_section, is_forced}
use Rattle.rail_rules.specs.Times.{admitted, is_admitted, passes, go, enter, arrive, leave, start_loss, clearing}

-- Of a move of a train and one of its steps, both counted from 0. The steps behind the needed sections are those of the
-- overlap, on which no train stands.

-- the step is one of the overlap
abbrev pub is_over : Plant → ℕ → ℕ → ℕ → Bool
is_over plant t m j = nat_le (steps plant t m) j

-- the train stands on the section of the step after the move
abbrev pub does_stand : Plant → ℕ → ℕ → ℕ → Bool
does_stand plant t m j = is_in (step_section plant t m j) (stand (moves_of plant) t (suc m))

-- the interval has no end yet: the train stands there, and its next move isn't admitted
abbrev pub is_open : Plant → ℕ → List ℕ → ℕ → ℕ → Bool
is_open plant t adms m j = does_stand plant t m j && not (is_admitted adms (suc m))

-- when the train begins to clear the section: as its next move begins to run where it stands there, else as its head leaves
abbrev pub clears_from : Plant → ℕ → List ℕ → ℕ → ℕ → ℕ
clears_from plant t adms m j = cond (does_stand plant t m j)
    (go plant t adms (suc m) + start_loss plant t (passes plant t adms (suc m)))
    (leave plant t adms m j)

-- when a needed section is free again: cleared and released
abbrev pub clear_end : Plant → ℕ → List ℕ → ℕ → ℕ → ℕ
clear_end plant t adms m j = clears_from plant t adms m j + clearing plant t (step_section plant t m j) + plant.tables.release

-- when the timer of an overlap runs out: so long after the arrival at the end of its move
abbrev pub timer_end : Plant → ℕ → List ℕ → ℕ → ℕ
timer_end plant t adms m = arrive plant t adms m + plant.tables.overlap_time

-- the next move takes a section of the overlap over: it claims it, and is admitted before the timer runs out
abbrev pub is_taken_over : Plant → ℕ → List ℕ → ℕ → ℕ → Bool
is_taken_over plant t adms m j = is_over plant t m j && is_admitted adms (suc m)
    && is_in (step_section plant t m j) (claimed plant t (suc m)) && nat_lt (admitted adms (suc m)) (timer_end plant t adms m)

-- when the interval of a section of the overlap ends: as the next move takes it over, else with the timer
abbrev pub overlap_end : Plant → ℕ → List ℕ → ℕ → ℕ → ℕ
overlap_end plant t adms m j = cond (is_taken_over plant t adms m j) (admitted adms (suc m)) (timer_end plant t adms m)

-- when an interval that isn't open ends
abbrev pub end_time : Plant → ℕ → List ℕ → ℕ → ℕ → ℕ
end_time plant t adms m j = cond (is_over plant t m j) (overlap_end plant t adms m j) (clear_end plant t adms m j)

-- the end of the interval, where it has one
abbrev pub end_of : Plant → ℕ → List ℕ → ℕ → ℕ → Option ℕ
end_of plant t adms m j = cond (is_open plant t adms m j) None (Some (end_time plant t adms m j))

-- the section isn't given free: the interval is open, or the next move takes it over
abbrev pub is_unfreed : Plant → ℕ → List ℕ → ℕ → ℕ → Bool
is_unfreed plant t adms m j = is_open plant t adms m j || is_taken_over plant t adms m j

-- when the section is given free, where it is
abbrev pub freed_at : Plant → ℕ → List ℕ → ℕ → ℕ → Option ℕ
freed_at plant t adms m j = cond (is_unfreed plant t adms m j) None (Some (end_time plant t adms m j))

-- the step has an interval: a section of the overlap that is taken over at its admission itself has none
abbrev pub has_interval : Plant → ℕ → List ℕ → ℕ → ℕ → Bool
has_interval plant t adms m j = not (is_taken_over plant t adms m j && (admitted adms (suc m) == admitted adms m))

-- the interval contains the instant: it has begun, and hasn't ended
abbrev pub contains_instant : Plant → ℕ → List ℕ → ℕ → ℕ → ℕ → Bool
contains_instant plant t adms m j instant = nat_le (admitted adms m) instant
    && (is_open plant t adms m j || nat_lt instant (end_time plant t adms m j))

-- the train has an interval on the section that contains the instant
abbrev pub blocks : Plant → ℕ → List ℕ → ℕ → ℕ → Bool
blocks plant t adms x instant = any_below (λ m. any_below (λ j.
    (step_section plant t m j == x) && contains_instant plant t adms m j instant) (claims plant t m)) (length adms)

-- how many sections of a move of the train u bar the train t: all that it claims, but not the overlap of t's own last admitted move
abbrev pub barring : Plant → ℕ → ℕ → ℕ → ℕ → ℕ
barring plant t u made m = cond ((u == t) && (suc m == made)) (steps plant u m) (claims plant u m)

-- the train u has an interval on the section that contains the instant and bars the train t
abbrev pub bars : Plant → ℕ → ℕ → List ℕ → ℕ → ℕ → Bool
bars plant t u adms x instant = any_below (λ m. any_below (λ j.
    (step_section plant u m j == x) && contains_instant plant u adms m j instant) (barring plant t u (length adms) m)) (length adms)

-- the approach is a part of the intervals of a move only where the train passes
abbrev pub approach_part : Plant → ℕ → List ℕ → ℕ → ℕ
approach_part plant t adms m = cond (passes plant t adms m) (move_row plant t m).approach 0

-- when the parts before the waiting are over
abbrev pub signalled : Plant → ℕ → List ℕ → ℕ → ℕ
signalled plant t adms m = admitted adms m + (move_row plant t m).setting + (move_row plant t m).watching + approach_part plant t adms m

-- how long the train stands on the section after its head was to leave it
abbrev pub standing_part : Plant → ℕ → List ℕ → ℕ → ℕ → ℕ
standing_part plant t adms m j = cond (does_stand plant t m j) (clears_from plant t adms m j - leave plant t adms m j) 0

-- while the interval is open, its running part is undecided on the last step before
-- a place that isn't forced, since the train may pass there
abbrev pub is_undecided : Plant → ℕ → List ℕ → ℕ → ℕ → Bool
is_undecided plant t adms m j = is_open plant t adms m j && (suc j == steps plant t m) && not (is_forced plant t (suc m))

-- the nine parts of the interval, in their order
abbrev pub parts_of : Plant → ℕ → List ℕ → ℕ → ℕ → Parts
parts_of plant t adms m j = record {
  setting = Some (move_row plant t m).setting;
  watching = Some (move_row plant t m).watching;
  approach = Some (approach_part plant t adms m);
  waiting = Some (go plant t adms m - signalled plant t adms m);
  earlier = Some (enter plant t adms m j - go plant t adms m);
  running = cond (is_undecided plant t adms m j) None (Some (leave plant t adms m j - enter plant t adms m j));
  standing = cond (is_open plant t adms m j) None (Some (standing_part plant t adms m j));
  clearing = Some (clearing plant t (step_section plant t m j));
  release = Some plant.tables.release;
}

-- how long the decided parts are together
abbrev pub decided : Option ℕ → ℕ
decided None = 0
decided (Some length) = length

-- how long all nine parts are together, as far as they are decided
abbrev pub parts_sum : Parts → ℕ
parts_sum parts = decided parts.setting + decided parts.watching + decided parts.approach + decided parts.waiting + decided parts.earlier
    + decided parts.running + decided parts.standing + decided parts.clearing + decided parts.release

-- the instants that the parts lie between follow each other: the signal is clear before the move begins, the head
-- enters after that, leaves after it entered, and the train clears the section after its head left it
pub record IsInOrder (plant : Plant) (t : ℕ) (adms : List ℕ) (m j : ℕ) : Type 0 where
  pub signal : signalled plant t adms m ≤ go plant t adms m
  pub begun : go plant t adms m ≤ enter plant t adms m j
  pub entered : enter plant t adms m j ≤ leave plant t adms m j
  pub left : leave plant t adms m j ≤ clears_from plant t adms m j

-- the parts of an interval of the overlap: none
abbrev pub no_parts : Parts
no_parts = record {
  setting = None;
  watching = None;
  approach = None;
  waiting = None;
  earlier = None;
  running = None;
  standing = None;
  clearing = None;
  release = None;
}

-- the blocking interval of an admitted move and a step of it
abbrev pub interval_of : Plant → ℕ → List ℕ → ℕ → ℕ → Interval
interval_of plant t adms m j = record {
  section = step_section plant t m j;
  train = t;
  place = suc m;
  begin = admitted adms m;
  «end» = end_of plant t adms m j;
  parts = cond (is_over plant t m j) no_parts (parts_of plant t adms m j);
}
