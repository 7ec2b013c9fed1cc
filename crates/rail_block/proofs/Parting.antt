-- The parts of an interval, as the code decides them.
use Rattle.std.proofs.Common.{◌≡◌, ℕ, ◌-◌, ◌≤◌, Bool, true, false, not, ◌&&◌, eqb, List, cond, is_some, Option, Some, None, Bor, refl, sym, ap, ◌∙◌}
use Rattle.std.specs.Option.{option_copied}
use Rattle.std.proofs.lemmas.Bool.{cond-true, cond-false}
use Rattle.rail_rules.specs.Intervals.{does_stand, is_undecided, clears_from, standing_part}
use Rattle.rail_rules.specs.Plant.{Plant, steps, is_forced}
use Rattle.rail_rules.specs.Times.{is_admitted, leave}
use Rattle.rail_block.specs.declared.times.MoveTimes.{MoveTimes}
use Rattle.rail_block.specs.CarriedTimes.{next_at}
use Rattle.rail_block.proofs.Placing.{before}
use Rattle.rail_block.proofs.Ending.{next-is}

copied-some : (o : Option (Bor MoveTimes)) → is_some o ≡ is_some (option_copied o)
copied-some None = refl
copied-some (Some n) = refl

-- whether the next move is admitted, by what is handed in of it
pub admitted-is : (plant : Plant) (t : ℕ) (adms : List ℕ) (place : ℕ) (o : Option (Bor MoveTimes)) → option_copied o ≡ next_at plant t adms place → is_some o ≡ is_admitted adms place
admitted-is plant t adms place o h = copied-some o ∙ next-is plant t adms place (option_copied o) h

-- the test of the code whether the running part is undecided
pub undecided : (plant : Plant) (t : ℕ) (adms : List ℕ) (place step : ℕ) (next : Bool) → 1 ≤ place → 1 ≤ step → next ≡ is_admitted adms place
    → (does_stand plant t (place - 1) (step - 1) && not next && eqb step (steps plant t (place - 1)) && not (is_forced plant t place)) ≡ is_undecided plant t adms (place - 1) (step - 1)
undecided plant t adms place step next some_place some_step there =
    let after = there ∙ ap (is_admitted adms) (before place some_place) in
    λ k. does_stand plant t (place - 1) (step - 1) && not (after k) && eqb (before step some_step k) (steps plant t (place - 1)) && not (is_forced plant t (before place some_place k))

pub undecided-part : (undecided : Bool) (part : Option ℕ) → undecided ≡ true → None ≡ cond undecided None part
undecided-part undecided part holds = sym (cond-true undecided None part holds)

pub decided-part : (undecided : Bool) (part length : ℕ) → undecided ≡ false → part ≡ length → Some part ≡ cond undecided None (Some length)
decided-part undecided part length fails same = ap Some same ∙ sym (cond-false undecided None (Some length) fails)

pub standing-stood : (plant : Plant) (t : ℕ) (adms : List ℕ) (m j : ℕ) → does_stand plant t m j ≡ true → clears_from plant t adms m j - leave plant t adms m j ≡ standing_part plant t adms m j
standing-stood plant t adms m j holds = sym (cond-true (does_stand plant t m j) (clears_from plant t adms m j - leave plant t adms m j) 0 holds)
