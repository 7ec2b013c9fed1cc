-- Lines of a run that were written, and the front for which the engine then stands.
use Rattle.std.specs.Prelude.{◌≡◌, ◌⊎◌, ℕ, ◌<◌, ◌≤◌, true, List, ◌∷◌, ◌++◌, length, Option}
use Rattle.rail_engine.specs.Engines.{StandsFor}
use Rattle.rail_io.specs.Writes.{Adds, AddsPrefix}
use Rattle.rail_ledger.specs.declared.ledger.Ledger.{Ledger}
use Rattle.rail_policy.specs.Desks.{Table}
use Rattle.rail_rules.specs.Fronts.{Front, Line, has_ended}
use Rattle.rail_rules.specs.RunHistories.{Seat}
use Rattle.rail_rules.specs.Texts.{text}
use Rattle.rail_save.specs.Snapshots.{snapshot}

-- the engine stands for some front of a run
pub record IsInRun (ledger : Ledger) (table : Table) : Type 0 where
  pub seats : List Seat
  pub front : Front
  pub stands : StandsFor seats front ledger table

-- there are so many more lines than those of the front, or fewer up to the end line
abbrev pub AreCounted : ℕ → Front → Front → Type 0
AreCounted count more front = (length more ≡ count) ⊎ ((length more < count) × (has_ended (more ++ front) ≡ true))

-- so many lines behind the front were written, or fewer up to the end line, and the engine stands for the front with them
pub record IsWritten (seats : List Seat) (front : Front) (count : ℕ) (ledger : Ledger) (table : Table) (before now : Option (List ℕ)) : Type 0 where
  pub more : Front
  pub stands : StandsFor seats (more ++ front) ledger table
  pub counted : AreCounted count more front
  pub adds : Adds before now (text ledger.input.plant more)

-- a write failed: of lines behind the front, which are not more than so many, a first part was written, and the engine
-- stands for the front with them
pub record IsWrittenInPart (seats : List Seat) (front : Front) (count : ℕ) (ledger : Ledger) (table : Table) (before now : Option (List ℕ)) : Type 0 where
  pub more : Front
  pub stands : StandsFor seats (more ++ front) ledger table
  pub few : length more ≤ count
  pub adds : AddsPrefix before now (text ledger.input.plant more)
  -- all of them but the last were written whole
  pub whole : (line : Line) (rest : Front) → more ≡ line ∷ rest → length (text ledger.input.plant rest) ≤ adds.count

-- the snapshot of a front of so many lines was written, or of fewer up to the end line, and the engine stands for the front
pub record IsSaved (seats : List Seat) (count : ℕ) (ledger : Ledger) (table : Table) (before now : Option (List ℕ)) : Type 0 where
  pub front : Front
  pub stands : StandsFor seats front ledger table
  pub counted : (length front ≡ count) ⊎ ((length front < count) × (has_ended front ≡ true))
  pub adds : Adds before now (snapshot ledger.input.plant front)

-- a write failed: a first part of the snapshot of a front, of not more lines than so many, was written, and the engine stands
-- for the front
pub record IsSavedInPart (seats : List Seat) (count : ℕ) (ledger : Ledger) (table : Table) (before now : Option (List ℕ)) : Type 0 where
  pub front : Front
  pub stands : StandsFor seats front ledger table
  pub few : length front ≤ count
  pub adds : AddsPrefix before now (snapshot ledger.input.plant front)
  -- all of its lines but the last were written whole
  pub whole : (line : Line) (rest : Front) → front ≡ line ∷ rest → length (snapshot ledger.input.plant rest) ≤ adds.count
