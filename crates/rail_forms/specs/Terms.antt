-- What a form says of its values.
use Rattle.std.specs.Prelude.{◌≡◌, ◌≢◌, ◌⊎◌, ℕ, List, Option}
use Rattle.rail_policy.specs.Seats.{DeskSeat}
use Rattle.rail_forms.specs.Answers.{Told}
use Rattle.rail_forms.specs.declared.status.Status.{Status}
use Rattle.rail_forms.specs.declared.status.Status.TheVariants.{Done, OutOfMemory, ReadFault, WriteFault}

-- the terms of a form whose words spell such values
pub record Terms (V : Type 0) : Type 1 where
  -- what is answered to the values, with this deck, where the files hold what is told: what was written before, what is
  -- written now, and the status
  pub answers : V → List DeskSeat → Told → Option (List ℕ) → Option (List ℕ) → Status → Type 0
  -- nothing is refused in the values: the bytes of the files are told, and accepted
  pub accepted : V → List DeskSeat → Told → Type 0
  -- a command that ends with this status is done
  pub done : Status → Type 0
  -- the values are refused before any file is read
  pub alone : V → Type 0

-- a command of most forms is done where its status says so
abbrev pub is_done : Status → Type 0
is_done status = status ≡ Done

-- no values of most forms are refused before any file is read
abbrev pub never : {V : Type 0} → V → Type 0
never values = ⊥

-- a command whose input is accepted is done, unless a call failed or memory was wanting
abbrev pub AreComplete : {V : Type 0} → Terms V → Type 0
AreComplete {V} terms = (values : V) (deck : List DeskSeat) (told : Told) (before now : Option (List ℕ)) (status : Status)
    → terms.answers values deck told before now status → terms.accepted values deck told → status ≢ ReadFault → status ≢ WriteFault
    → terms.done status ⊎ (status ≡ OutOfMemory)
