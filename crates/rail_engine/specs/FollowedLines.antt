-- A line of a run that was made before is followed.
use Rattle.std.specs.Prelude.{◌≡◌, ◌∷◌, ℕ, true, false, IsTrue, List, set}
use Rattle.rail_base.specs.declared.history.Note.{Note}
use Rattle.rail_base.specs.declared.orders.PolicyKind.TheVariants.{Custom}
use Rattle.rail_rules.specs.Causes.{could_go}
use Rattle.rail_rules.specs.Fronts.{Front, Line}
use Rattle.rail_rules.specs.RunHistories.{Seat, is_chosen, is_run, repairs_first}
use Rattle.rail_laws_end.specs.Forks.{are_marks}
use Rattle.rail_policy.specs.Desks.{Table, after_note, seat_in_force}
use Rattle.rail_ledger.specs.declared.ledger.Ledger.{Ledger}
use Rattle.rail_ledger.specs.Inputs.{input_in}
use Rattle.rail_ledger.specs.Ledgers.{IsAt}
use Rattle.rail_engine.specs.Desks.{IsDesk}
use Rattle.rail_engine.specs.Engines.{IsOfRun}

-- the policy in force was asked alone: only its last answer, and what the last turn was about, may differ, and a custom one
-- was not asked
pub record IsAskedAlone (before now : Table) : Type 0 where
  pub force : now.force ≡ before.force
  pub seats : now.seats ≡ set before.seats before.force (record (seat_in_force before) { answered = (seat_in_force now).answered })
  pub custom : (seat_in_force before).kind ≡ Custom → now ≡ before

-- the policy in force was asked alone, and then noted the admission of the train
pub record IsNotedAlone (before now : Table) (t : ℕ) : Type 0 where
  pub asked : Table
  pub alone : IsAskedAlone before asked
  pub noted : now ≡ after_note asked t

-- the line continues each run for whose front the ledger stood and to which the desk belonged
abbrev pub FollowsRuns : Ledger → Ledger → Table → Table → Line → Type 0
FollowsRuns old new before after line = (seats : List Seat) (front : Front) → IsAt front old → IsOfRun seats old.input front before
    → IsOfRun seats new.input (line ∷ front) after

-- the line continues no such run
abbrev pub RefusesRuns : Ledger → Table → Line → Type 0
RefusesRuns old before line = (seats : List Seat) (front : Front) → IsTrue (are_marks seats) → IsAt front old → IsOfRun seats old.input front before
    → is_run (input_in old.input) seats (line ∷ front) ≡ false

-- the policy in force would choose no other train that could go
abbrev pub LetsGoFirst : Ledger → Table → ℕ → Type 0
LetsGoFirst ledger table t = (seats : List Seat) (front : Front) → IsAt front ledger → IsDesk (input_in ledger.input) seats front table
    → is_chosen (input_in ledger.input) seats front t ≡ true

-- the train could not go, or the policy in force would choose another one
abbrev pub LetsAnotherGo : Ledger → Table → ℕ → Type 0
LetsAnotherGo ledger table t = (seats : List Seat) (front : Front) → IsTrue (are_marks seats) → IsAt front ledger → IsDesk (input_in ledger.input) seats front table
    → could_go (input_in ledger.input) front t ≡ true → is_chosen (input_in ledger.input) seats front t ≡ false

-- the ledger stands for each front with the admission, before which the train could go, and repair goes before a fresh list
abbrev pub AdmitsInRun : Ledger → Ledger → ℕ → Note → Line → Type 0
AdmitsInRun old new t note line = (front : Front) → IsAt front old → IsAt (line ∷ front) new
    × (could_go (input_in old.input) front t ≡ true) × (repairs_first (input_in old.input) front t note ≡ true)

-- the line continues no run for whose front the ledger stood, whatever the policies are
abbrev pub ContinuesNoRun : Ledger → Line → Type 0
ContinuesNoRun old line = (seats : List Seat) (front : Front) → IsAt front old → is_run (input_in old.input) seats (line ∷ front) ≡ false
