-- The line that is due.
use Rattle.std.specs.Prelude.{◌≡◌, ◌⊎◌, ℕ, true, false, [], ◌∷◌, Option, Some, None}
use Rattle.rail_rules.specs.Fronts.{Front, is_admission}
use Rattle.rail_rules.specs.Lawful.{is_lawful}
use Rattle.rail_ledger.specs.Inputs.{input_in}
use Rattle.rail_ledger.specs.Ledgers.{CouldGo, IsAt, IsHoldDue, MayGoOn, line_with}
use Rattle.rail_ledger.specs.declared.due.Due.{Due}
use Rattle.rail_ledger.specs.declared.ledger.Ledger.{Ledger}
use Rattle.rail_ledger.specs.declared.ledger.Listed.TheVariants as listed

-- the train of the hold line that is due; none where the line is that of an event
abbrev pub held_in : Due → Option ℕ
held_in due = due.train

-- the hold line of this train is due, or nothing is left to decide at the instant
abbrev pub IsDueFor : Ledger → Option ℕ → Type 0
IsDueFor ledger (Some t) = IsHoldDue ledger t
IsDueFor ledger None = MayGoOn ledger

-- the line is no admission and may follow each front for which the ledger stands; it is the hold line of its train, or else
-- that of the next event
pub record IsDue (ledger : Ledger) (due : Due) : Type 0 where
  pub going : ledger.state.has_ended ≡ false
  pub unlisted : ledger.listed ≡ listed.Nothing
  pub other : is_admission due.entry.what ≡ false
  pub lawful : (front : Front) → IsAt front ledger → is_lawful (input_in ledger.input) (line_with due.entry [] ∷ front) ≡ true
  pub next : IsDueFor ledger (held_in due)

-- the last line is the end line, or some train could be admitted, or no event is pending
abbrev pub IsNoneDue : Ledger → Ledger → Type 0
IsNoneDue old new = (old.state.has_ended ≡ true) ⊎ (CouldGo old ⊎ (new.state.queue.events ≡ []))
