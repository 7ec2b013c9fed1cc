-- The front for which an engine stands.
use Rattle.std.specs.Prelude.{◌≡◌, ◌≤◌, ◌∷◌, true, IsTrue, List, vec_capacity}
use Rattle.rail_base.specs.declared.history.Entry.{Entry}
use Rattle.rail_base.specs.declared.limits.TheConstants.{TRAINS}
use Rattle.rail_rules.specs.Fronts.{Front}
use Rattle.rail_rules.specs.RunHistories.{Seat, is_run}
use Rattle.rail_policy.specs.Desks.{Table}
use Rattle.rail_ledger.specs.declared.input.RunInput.{RunInput}
use Rattle.rail_ledger.specs.declared.ledger.Ledger.{Ledger}
use Rattle.rail_ledger.specs.Inputs.{input_in}
use Rattle.rail_ledger.specs.Ledgers.{IsAt, IsSomewhere, line_in, list_in, list_of}
use Rattle.rail_state.specs.Representation.{AreAllKnown}
use Rattle.rail_engine.specs.declared.round.Round.{Round}
use Rattle.rail_engine.specs.Desks.{IsDesk}

-- the front is one of a run with the policies that were handed in, and the desk belongs to it
pub record IsOfRun (seats : List Seat) (input : RunInput) (front : Front) (table : Table) : Type 0 where
  pub of_run : IsTrue (is_run (input_in input) seats front)
  pub desk : IsDesk (input_in input) seats front table

-- the line of the entry continues each run for whose front the ledger stood and to which the desk belonged
abbrev pub ContinuesRuns : Ledger → Ledger → Table → Table → Entry → Type 0
ContinuesRuns old new before after entry = (seats : List Seat) (front : Front) → IsAt front old → IsOfRun seats old.input front before
    → IsOfRun seats new.input (line_in new entry ∷ front) after

-- the desk belongs to each front to which it belonged and for which the ledger stood
abbrev pub StaysDesk : Ledger → Table → Table → Type 0
StaysDesk ledger before after = (seats : List Seat) (front : Front) → IsAt front ledger → IsDesk (input_in ledger.input) seats front before
    → IsDesk (input_in ledger.input) seats front after

-- what the engine keeps stands for the front, which is one of a run with the policies that were handed in, the desk
-- belongs to it, and the list that belongs to the last line is that line's
pub record StandsFor (seats : List Seat) (front : Front) (ledger : Ledger) (table : Table) : Type 0 where
  pub at : IsAt front ledger
  pub run : IsOfRun seats ledger.input front table
  pub list : list_in ledger ≡ list_of front

-- what the engine keeps stands for some front, there is room to offer every train and no more, and once a round is over each train that
-- waits has a known cause
pub record IsRunning (ledger : Ledger) (round : Round) : Type 0 where
  pub somewhere : IsSomewhere ledger
  pub room : vec_capacity round.offers ≡ TRAINS
  pub over : round.is_over ≡ true → AreAllKnown ledger.input.plant ledger.state.trains
