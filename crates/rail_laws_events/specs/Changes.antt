-- What an admission changes among the event lines of its train.
use Rattle.std.specs.Prelude.{ℕ, zero, suc, ◌+◌, cond, nat_lt, List, [], ◌∷◌, ◌++◌, length}
use Rattle.rail_base.specs.declared.history.Entry.{Entry}
use Rattle.rail_base.specs.declared.history.What.TheVariants.{Free}
use Rattle.rail_rules.specs.Numbers.{gather}
use Rattle.rail_rules.specs.Plant.{Plant, moves, overlap, steps, step_section}
use Rattle.rail_rules.specs.Fronts.{at_time}
use Rattle.rail_rules.specs.Intervals.{does_stand, end_time, freed_at}
use Rattle.rail_rules.specs.Events.{arrive_line, free_lines, ready_line, move_events}

-- the free lines of the overlap of a move
abbrev pub overlap_frees : Plant → ℕ → List ℕ → ℕ → List Entry
overlap_frees plant t adms m = gather
    (λ i. free_lines t (step_section plant t m (steps plant t m + i)) (freed_at plant t adms m (steps plant t m + i)))
    (length (overlap plant t m))

-- the lines of the move before this one, where there is one, that this one may change: that it arrives, and that its overlap is freed
abbrev pub taken_back : Plant → ℕ → List ℕ → ℕ → List Entry
taken_back plant t adms zero = []
taken_back plant t adms (suc m) = arrive_line plant t adms m ∷ overlap_frees plant t adms m

-- the free lines of the sections on which the train stands before this move
abbrev pub freed_before : Plant → ℕ → List ℕ → ℕ → List Entry
freed_before plant t adms zero = []
freed_before plant t adms (suc m) = gather
    (λ j. cond (does_stand plant t m j) (at_time (end_time plant t adms m j) (Free (step_section plant t m j) t) ∷ []) [])
    (steps plant t m)

-- the ready line of the move after this one, where there is one
abbrev pub ready_after : Plant → ℕ → List ℕ → ℕ → List Entry
ready_after plant t adms m = cond (nat_lt (suc m) (moves plant t)) (ready_line plant t adms (suc m) ∷ []) []

-- the event lines that come with the admission of this move, the last of these admissions: the
-- arrival before it, which may now be a passing one, and the free lines of the overlap before it that isn't taken over;
-- the free lines of the sections on which the train stood; those of the move; and the next ready line
abbrev pub gained : Plant → ℕ → List ℕ → ℕ → List Entry
gained plant t adms m = taken_back plant t adms m ++ freed_before plant t adms m ++ move_events plant t adms m ++ ready_after plant t adms m
