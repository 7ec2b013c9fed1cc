-- Counting the lines of a history.
use Rattle.std.specs.Prelude.{ℕ, ◌+◌, ◌==◌, Bool, true, false, cond, [], ◌∷◌, length}
use Rattle.rail_base.specs.declared.history.What.{What}
use Rattle.rail_base.specs.declared.history.What.TheVariants.{Told, Untold, Hold}
use Rattle.rail_rules.specs.Fronts.{Front, admissions}
use Rattle.rail_rules.specs.Numbers.{sum_below}
use Rattle.rail_rules.specs.Plant.{Plant, trains, claims}
use Rattle.rail_rules.specs.Intervals.{is_taken_over}

-- the line is a hold line of the train
abbrev pub holds_train : ℕ → What → Bool
holds_train t (Hold u m why) = u == t
holds_train t _ = false

-- the line is that of a command
abbrev pub is_command : What → Bool
is_command (Told k) = true
is_command (Untold k) = true
is_command _ = false

-- how many lines of the front pass the test
abbrev pub lines_that : (What → Bool) → Front → ℕ
lines_that test [] = 0
lines_that test (line ∷ before) = cond (test line.entry.what) 1 0 + lines_that test before

-- how many sections of overlaps were taken over
abbrev pub taken_over : Plant → Front → ℕ
taken_over plant front = sum_below (λ t. sum_below (λ m. sum_below (λ j.
    cond (is_taken_over plant t (admissions front t) m j) 1 0) (claims plant t m)) (length (admissions front t))) (trains plant)
