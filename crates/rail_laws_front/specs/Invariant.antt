-- What every lawful front keeps.
use Rattle.std.specs.Prelude.{◌≡◌, ℕ, ◌<◌, ◌≤◌, ◌⊎◌, true, length, slice_get, Some}
use Rattle.rail_base.specs.declared.history.Entry.{Entry}
use Rattle.rail_base.specs.declared.orders.Command.{Command}
use Rattle.rail_rules.specs.Numbers.{is_in}
use Rattle.rail_rules.specs.Moves.{stand}
use Rattle.rail_rules.specs.Plant.{Plant, trains, moves_of, step_section}
use Rattle.rail_rules.specs.Fronts.{Front, instant, admissions, stands}
use Rattle.rail_rules.specs.Orders.{Input, told, is_cancelled}
use Rattle.rail_rules.specs.Times.{admitted}
use Rattle.rail_rules.specs.Intervals.{is_open}
use Rattle.rail_rules.specs.Events.{is_written}
use Rattle.rail_rules.specs.Causes.{place}
use Rattle.rail_laws_front.specs.EventLines.{IsEvent}
use Rattle.rail_rules.specs.Apart.{IsStep}

-- an event line stands in the front or isn't over
abbrev pub IsOpenOrWritten : Front → Entry → Type 0
IsOpenOrWritten front e = (stands front e ≡ true) ⊎ (instant front ≤ e.at)

-- what stands is past, and what doesn't stand is to come: no line is ever late
pub record IsTimely (input : Input) (front : Front) : Type 0 where
  pub past : (e : Entry) → stands front e ≡ true → e.at ≤ instant front
  pub events : (t : ℕ) (e : Entry) → t < trains input.plant
      → IsEvent input.plant t (admissions front t) (is_cancelled t (told input.commands front)) e
      → IsOpenOrWritten front e
  pub commands : (k : ℕ) (command : Command) → slice_get input.commands k ≡ Some command
      → (is_written front command k ≡ true) ⊎ (instant front ≤ command.at)
  pub admitted_by : (t m : ℕ) → m < length (admissions front t) → admitted (admissions front t) m ≤ instant front

-- a train has an open interval on a section
pub record HasOpen (plant : Plant) (front : Front) (t x : ℕ) : Type 0 where
  pub move : ℕ
  pub index : ℕ
  pub step : IsStep plant front t move index
  pub section : step_section plant t move index ≡ x
  pub opens : is_open plant t (admissions front t) move index ≡ true

-- the open intervals are exactly one for each section of each train's standing set
pub record AreStanding (plant : Plant) (front : Front) : Type 0 where
  pub each : (t x : ℕ) → t < trains plant → is_in x (stand (moves_of plant) t (place front t)) ≡ true → HasOpen plant front t x
  pub only : (t m j : ℕ) → IsStep plant front t m j → is_open plant t (admissions front t) m j ≡ true
      → is_in (step_section plant t m j) (stand (moves_of plant) t (place front t)) ≡ true
  pub one : (t m j n i : ℕ) → IsStep plant front t m j → IsStep plant front t n i
      → is_open plant t (admissions front t) m j ≡ true → is_open plant t (admissions front t) n i ≡ true
      → step_section plant t m j ≡ step_section plant t n i → (m ≡ n) × (j ≡ i)
