-- What it means that some line is to come.
use Rattle.std.specs.Prelude.{◌≡◌, ℕ, ◌<◌, Bool, true, false}
use Rattle.rail_base.specs.declared.history.Entry.{Entry}
use Rattle.rail_rules.specs.Plant.{Plant, trains}
use Rattle.rail_rules.specs.Fronts.{Front, admissions, stands}
use Rattle.rail_laws_front.specs.EventLines.{IsEvent}

-- an event line of a train that doesn't stand in the front and passes the test
pub record ToCome (plant : Plant) (front : Front) (p : Entry → Bool) : Type 0 where
  pub train : ℕ
  pub entry : Entry
  pub known : train < trains plant
  pub event : IsEvent plant train (admissions front train) false entry
  pub fresh : stands front entry ≡ false
  pub passes : p entry ≡ true
