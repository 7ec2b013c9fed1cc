-- Lines behind a front of a run: which of them is the first with which the front is none of a run.
use Rattle.std.specs.Prelude.{◌≡◌, ℕ, suc, ◌+◌, false, cond, IsTrue, List, [], ◌∷◌, ◌++◌, length, Option, Some, None}
use Rattle.rail_laws_verdict.specs.Verdicts.{behind}
use Rattle.rail_rules.specs.Fronts.{Front, Line}
use Rattle.rail_rules.specs.Orders.{Input}
use Rattle.rail_rules.specs.RunHistories.{Seat, is_run}

-- the number of the first of these lines with which the front is none of a run; the first of them has the number n
abbrev pub other_behind : Input → List Seat → Front → ℕ → List Line → Option ℕ
other_behind input seats front n [] = None
other_behind input seats front n (line ∷ lines) =
    cond (is_run input seats (line ∷ front)) (other_behind input seats (line ∷ front) (suc n) lines) (Some n)

-- the front with all of these lines is one of a run
abbrev pub AreFollowed : Input → List Seat → Front → List Line → Type 0
AreFollowed input seats front lines = IsTrue (is_run input seats (behind front lines))

-- the line of this number is the first of these lines with which the front is none of a run
pub record IsOtherAt (input : Input) (seats : List Seat) (front : Front) (n : ℕ) (lines : List Line) (number : ℕ) : Type 0 where
  pub before : List Line
  pub line : Line
  pub after : List Line
  pub are : lines ≡ before ++ line ∷ after
  pub counted : number ≡ n + length before
  pub run : IsTrue (is_run input seats (behind front before))
  pub other : is_run input seats (line ∷ behind front before) ≡ false
