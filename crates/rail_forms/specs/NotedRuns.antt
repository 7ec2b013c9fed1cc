-- What is noted of a run, line by line, and the text that tells of it.
use Rattle.std.specs.Prelude.{◌≡◌, ℕ, ◌∷◌, IsTrue, List}
use Rattle.rail_base.specs.declared.history.Entry.{Entry}
use Rattle.rail_rules.specs.Accepted.{is_accepted_input}
use Rattle.rail_rules.specs.Fronts.{Front, Line}
use Rattle.rail_rules.specs.Lawful.{is_lawful}
use Rattle.rail_rules.specs.Orders.{Input}
use Rattle.rail_rules.specs.Plant.{Plant}
use Rattle.rail_rules.specs.RunHistories.{Seat}
use Rattle.rail_forms.specs.Runs.{IsRunInPart, IsRunWithin}

-- the entry is that of a line which lawfully follows the front, in a history of the input on this plant, and the list belongs to it
pub record IsNext (input : Input) (front : Front) (line : Line) (plant : Plant) (entry : Entry) (list : List ℕ) : Type 0 where
  pub accepted : IsTrue (is_accepted_input input)
  pub lawful : IsTrue (is_lawful input (line ∷ front))
  pub plant_is : plant ≡ input.plant
  pub entry_is : line.entry ≡ entry
  pub list_is : list ≡ line.trains

-- the lines before the entry were noted
pub record FollowsNoted (are_noted : Input → Front → Type 0) (plant : Plant) (entry : Entry) (list : List ℕ) : Type 0 where
  pub input : Input
  pub front : Front
  pub line : Line
  pub next : IsNext input front line plant entry list
  pub noted : are_noted input front

-- the lines of a run history of the input were noted
pub record IsNotedRun (are_noted : Input → Front → Type 0) (input : Input) (seats : List Seat) : Type 0 where
  pub front : Front
  pub run : IsRunWithin input seats front
  pub noted : are_noted input front

-- the lines of a first part of a run of the input were noted but for the last, of which a first part was
pub record IsCutRun (is_cut : Input → Front → Type 0) (input : Input) (seats : List Seat) : Type 0 where
  pub front : Front
  pub run : IsRunInPart input seats front
  pub cut : is_cut input front

-- a text that tells this of a run history of the input was added, or so much of it
pub record ReportsRun (tells : Input → Front → List ℕ → Type 0) (input : Input) (seats : List Seat) (adds : List ℕ → Type 0) : Type 0 where
  pub front : Front
  pub run : IsRunWithin input seats front
  pub text : List ℕ
  pub told : tells input front text
  pub added : adds text
