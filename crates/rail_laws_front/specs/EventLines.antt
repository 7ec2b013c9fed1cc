-- The event lines of a train by move and step.
use Rattle.std.specs.Prelude.{◌≡◌, ℕ, suc, ◌<◌, ◌≤◌, Bool, false, List, length}
use Rattle.rail_base.specs.declared.history.Entry.{Entry}
use Rattle.rail_base.specs.declared.history.What.TheVariants.{Free, Out}
use Rattle.rail_rules.specs.Plant.{Plant, moves, steps, claims, step_section}
use Rattle.rail_rules.specs.Fronts.{at_time}
use Rattle.rail_rules.specs.Times.{out}
use Rattle.rail_rules.specs.Intervals.{is_unfreed, end_time}
use Rattle.rail_rules.specs.Events.{enter_line, arrive_line, ready_line}

-- the entry is an event line of the train with these admissions, cancelled or not
pub data IsEvent (plant : Plant) (t : ℕ) (adms : List ℕ) (cancelled : Bool) (e : Entry) : Type 0 where
  entering : (m j : ℕ) → m < length adms → j < steps plant t m → e ≡ enter_line plant t adms m j
      → IsEvent plant t adms cancelled e
  arriving : (m : ℕ) → m < length adms → e ≡ arrive_line plant t adms m → IsEvent plant t adms cancelled e
  freeing : (m j : ℕ) → m < length adms → j < claims plant t m → is_unfreed plant t adms m j ≡ false
      → e ≡ at_time (end_time plant t adms m j) (Free (step_section plant t m j) t)
      → IsEvent plant t adms cancelled e
  leaving : (m : ℕ) → m < length adms → suc m ≡ moves plant t → e ≡ at_time (out plant t adms m) (Out t)
      → IsEvent plant t adms cancelled e
  readying : (m : ℕ) → m ≤ length adms → m < moves plant t → cancelled ≡ false
      → e ≡ ready_line plant t adms m → IsEvent plant t adms cancelled e
