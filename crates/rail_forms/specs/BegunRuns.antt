-- A run that has begun: what it is of.
use Rattle.std.specs.Prelude.{IsTrue, List, []}
use Rattle.rail_engine.specs.Engines.{StandsFor}
use Rattle.rail_laws_end.specs.Forks.{are_marks}
use Rattle.rail_ledger.specs.Inputs.{input_in}
use Rattle.rail_ledger.specs.declared.ledger.Ledger.{Ledger}
use Rattle.rail_policy.specs.Desks.{Table, run_seats}
use Rattle.rail_policy.specs.declared.desk.Desk.{Desk}
use Rattle.rail_rules.specs.Orders.{Input}
use Rattle.rail_rules.specs.RunHistories.{Seat}
use Rattle.rail_forms.specs.declared.beginning.Begun.{Begun}

-- what the run is of
abbrev pub input_of : {I : _} {box : _} → Begun I box → Input
input_of begun = input_in begun.engine.core.input

-- the policies of the run as they were handed in, where a desk is seen by its table
abbrev pub seats_of : {I : _} {box : _} → (Desk I box → Table) → Begun I box → List Seat
seats_of table begun = run_seats (table begun.engine.desk)

-- what an engine keeps stands for no line yet, and the marks of its policies are 16-bit numbers
pub record IsAtStart (ledger : Ledger) (table : Table) : Type 0 where
  pub stands : StandsFor (run_seats table) [] ledger table
  pub marks : IsTrue (are_marks (run_seats table))

-- the engine of the run has given no line yet
abbrev pub HasBegun : {I : _} {box : _} → (Desk I box → Table) → Begun I box → Type 0
HasBegun table begun = IsAtStart begun.engine.core (table begun.engine.desk)
