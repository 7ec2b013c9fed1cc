-- Which law a line breaks, and the verdict on a history.
use Rattle.std.specs.Prelude.{◌≡◌, ℕ, suc, ◌==◌, Bool, true, false, not, ◌&&◌, ◌||◌, cond, List, [], ◌∷◌, ◌++◌, length, is_some}
use Rattle.rail_base.specs.declared.history.What.{What}
use Rattle.rail_base.specs.declared.history.What.TheVariants.{Admit, Hold}
use Rattle.rail_rules.specs.Plant.{claimed}
use Rattle.rail_rules.specs.Fronts.{Line, Front, instant, has_ended, has_held}
use Rattle.rail_rules.specs.Orders.{Input, told}
use Rattle.rail_rules.specs.Causes.{place, waits, closed_cause, blocked_cause, stop_cause, is_deciding, is_settled}
use Rattle.rail_rules.specs.Lawful.{may_follow, is_lawful}

-- at the instant something is left to decide: some waiting train could be admitted, or a hold line is due
abbrev pub is_undecided : Input → Front → Bool
is_undecided input front = is_deciding input front && not (is_settled input front)

-- the train isn't waiting at this instant, or another move is named, or a hold line stands before it in the round
abbrev pub is_misplaced : Input → Front → Line → ℕ → ℕ → Bool
is_misplaced input front line t m =
    not ((line.entry.at == instant front) && waits input front t && (m == suc (place front t)) && not (has_held front))

-- the train is stopped, or a section that its next move claims is closed
abbrev pub is_forbidden : Input → Front → ℕ → Bool
is_forbidden input front t = is_some (stop_cause t (told input.commands front))
    || is_some (closed_cause (claimed input.plant t (place front t)) (told input.commands front))

-- a section that its next move claims has an interval that contains the instant, which is none of the overlap of its own last admitted move
abbrev pub is_occupied : Input → Front → ℕ → Bool
is_occupied input front t = is_some (blocked_cause input front t (claimed input.plant t (place front t)))

-- the law that a line breaks which may not follow, by its kind
abbrev pub law_of : Input → Front → Line → What → ℕ
law_of input front line (Admit t m note) = cond (is_misplaced input front line t m) 2
    (cond (is_forbidden input front t) 3 (cond (is_occupied input front t) 4 5))
law_of input front line (Hold t m why) = 6
law_of input front line _ = cond (is_undecided input front) 6 1

-- the law that a line breaks which may not follow
abbrev pub broken_law : Input → Front → Line → ℕ
broken_law input front line = cond (has_ended front) 1 (law_of input front line line.entry.what)

-- the law that is broken where the history ends without an end line
abbrev pub missing_law : Input → Front → ℕ
missing_law input front = cond (is_undecided input front) 6 7

-- the verdict on a history: lawful to its end, or the first line that may not follow, counted from 1, and the law
pub data Verdict : Type 0 where
  yes : Verdict
  no : ℕ → ℕ → Verdict

-- the verdict on the lines behind a front, the first of which is counted n
abbrev pub verdict_behind : Input → Front → ℕ → List Line → Verdict
verdict_behind input front n [] = cond (has_ended front) yes (no n (missing_law input front))
verdict_behind input front n (line ∷ lines) = cond (may_follow input front line)
    (verdict_behind input (line ∷ front) (suc n) lines)
    (no n (broken_law input front line))

-- the verdict on a history, whose lines are given from the oldest on
abbrev pub verdict : Input → List Line → Verdict
verdict input lines = verdict_behind input [] 1 lines

-- the front of these lines behind a front
abbrev pub behind : Front → List Line → Front
behind front [] = front
behind front (line ∷ lines) = behind (line ∷ front) lines

-- these lines come next: none where the end line is missing, else the first of them may not follow; the law is the one that is broken
abbrev pub IsBroken : Input → Front → ℕ → List Line → Type 0
IsBroken input front law [] = (has_ended front ≡ false) × (law ≡ missing_law input front)
IsBroken input front law (line ∷ rest) = (may_follow input front line ≡ false) × (law ≡ broken_law input front line)

-- the line of this number is the first that may not follow the lawful lines before it, or is the missing end line; it breaks this law
pub record IsBrokenAt (input : Input) (lines : List Line) (at law : ℕ) : Type 0 where
  pub before : List Line
  pub after : List Line
  pub are : lines ≡ before ++ after
  pub number : at ≡ suc (length before)
  pub lawful : is_lawful input (behind [] before) ≡ true
  pub broken : IsBroken input (behind [] before) law after
