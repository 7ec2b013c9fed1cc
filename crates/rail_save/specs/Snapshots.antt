-- The file of a snapshot: a header, and behind it the text of a front of a run.
use Rattle.std.specs.Prelude.{◌≡◌, ◌≢◌, ◌⊎◌, ℕ, suc, List, [], ◌∷◌, ◌++◌, Some, codes, reverse}
use Rattle.rail_base.specs.declared.refusals.Fault.{Fault}
use Rattle.rail_base.specs.declared.refusals.Fault.TheVariants.{OutOfMemory, Refused}
use Rattle.rail_base.specs.declared.refusals.Reason.TheVariants.{SnapshotForm, SnapshotOther}
use Rattle.rail_base.specs.declared.refusals.Refusal.{Refusal}
use Rattle.rail_engine.specs.Engines.{StandsFor}
use Rattle.rail_history.specs.HistoryLines.{IsFirstWrong, IsHistory}
use Rattle.rail_ledger.specs.declared.ledger.Ledger.{Ledger}
use Rattle.rail_policy.specs.Desks.{Table}
use Rattle.rail_rules.specs.Fronts.{Front, Line}
use Rattle.rail_rules.specs.Orders.{Input}
use Rattle.rail_rules.specs.Plant.{Plant}
use Rattle.rail_rules.specs.RunHistories.{Seat}
use Rattle.rail_rules.specs.Texts.{text}
use Rattle.rail_text.specs.Lines.{refusal_at}
use Rattle.rail_save.specs.RunLines.{other_behind}

-- the first line of a snapshot, with its line feed
abbrev pub header : List ℕ
header = codes "rail-snapshot 1" ++ 10 ∷ []

-- the snapshot of a front: the header, and the text of the front
abbrev pub snapshot : Plant → Front → List ℕ
snapshot plant front = header ++ text plant front

-- the bytes are a snapshot of these lines, of which the oldest is the first: the header, and a history file of the lines
pub record IsSnapshot (plant : Plant) (bytes : List ℕ) (lines : List Line) : Type 0 where
  pub rest : List ℕ
  pub begins : bytes ≡ header ++ rest
  pub history : IsHistory plant rest lines

-- the bytes do not begin with the header
abbrev pub IsHeaderless : List ℕ → Type 0
IsHeaderless bytes = (rest : List ℕ) → bytes ≢ header ++ rest

-- the bytes begin with the header, and the line of this number, the header counted, is the first behind it that is none of a
-- history file
pub record IsWrongBehind (plant : Plant) (bytes : List ℕ) (number : ℕ) : Type 0 where
  pub rest : List ℕ
  pub begins : bytes ≡ header ++ rest
  pub line : ℕ
  pub wrong : IsFirstWrong plant rest line
  pub counted : number ≡ suc line

-- the line of this number, the header counted, is the first that is none of a snapshot
abbrev pub IsFirstUnread : Plant → List ℕ → ℕ → Type 0
IsFirstUnread plant bytes number = (IsHeaderless bytes × (number ≡ 1)) ⊎ IsWrongBehind plant bytes number

-- the bytes are no snapshot, and the refusal names the first line that is none
pub record IsNoSnapshot (plant : Plant) (bytes : List ℕ) (refusal : Refusal) : Type 0 where
  pub number : ℕ
  pub unread : IsFirstUnread plant bytes number
  pub is : refusal ≡ refusal_at SnapshotForm number

-- the bytes are no snapshot, unless memory was not found
abbrev pub IsRefusedUnread : Plant → List ℕ → Fault → Type 0
IsRefusedUnread plant bytes (Refused refusal) = IsNoSnapshot plant bytes refusal
IsRefusedUnread plant bytes OutOfMemory = Unit {0}

-- the fault names the first of these lines, of which the first is the second of a snapshot, with which the front is none of a
-- run
pub record IsOtherFault (input : Input) (seats : List Seat) (lines : List Line) (fault : Fault) : Type 0 where
  pub number : ℕ
  pub other : other_behind input seats [] 2 lines ≡ Some number
  pub is : fault ≡ Refused (refusal_at SnapshotOther number)

-- the bytes are a snapshot of lines that are not those of a run, and the fault names the first line, the header counted,
-- with which they are none
pub record IsOtherSnapshot (input : Input) (seats : List Seat) (bytes : List ℕ) (fault : Fault) : Type 0 where
  pub lines : List Line
  pub snapshot : IsSnapshot input.plant bytes lines
  pub other : IsOtherFault input seats lines fault

-- why a snapshot is refused for a run of the input: as no snapshot, unless memory was not found; else as one of another run
abbrev pub IsRefusedSnapshot : Input → List Seat → List ℕ → Fault → Type 0
IsRefusedSnapshot input seats bytes fault = IsRefusedUnread input.plant bytes fault ⊎ IsOtherSnapshot input seats bytes fault

-- the bytes are a snapshot of lines of a run, and the engine stands for the front of all of them
pub record IsResumed (seats : List Seat) (bytes : List ℕ) (ledger : Ledger) (table : Table) : Type 0 where
  pub lines : List Line
  pub snapshot : IsSnapshot ledger.input.plant bytes lines
  pub stands : StandsFor seats (reverse lines) ledger table
