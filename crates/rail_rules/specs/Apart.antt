-- Blocking intervals of one section, and that they never overlap.
use Rattle.std.specs.Prelude.{◌≡◌, ℕ, ◌<◌, ◌≤◌, false, List, length}
use Rattle.rail_rules.specs.Plant.{Plant, trains, claims, step_section}
use Rattle.rail_rules.specs.Fronts.{Front, admissions}
use Rattle.rail_rules.specs.Times.{admitted}
use Rattle.rail_rules.specs.Intervals.{is_open, end_time}

-- the interval of a step of an admitted move has ended by a time
pub record HasEnded (plant : Plant) (t : ℕ) (adms : List ℕ) (m j time : ℕ) : Type 0 where
  pub closed : is_open plant t adms m j ≡ false
  pub by : end_time plant t adms m j ≤ time

-- a step of an admitted move of a train, or one of its overlap
pub record IsStep (plant : Plant) (front : Front) (t m j : ℕ) : Type 0 where
  pub known : t < trains plant
  pub admitted_move : m < length (admissions front t)
  pub step : j < claims plant t m

-- two steps are one, or one's interval ended before the other's began
pub data AreApart (plant : Plant) (front : Front) (t m j u n i : ℕ) : Type 0 where
  one : t ≡ u → m ≡ n → j ≡ i → AreApart plant front t m j u n i
  first : HasEnded plant t (admissions front t) m j (admitted (admissions front u) n) → AreApart plant front t m j u n i
  second : HasEnded plant u (admissions front u) n i (admitted (admissions front t) m) → AreApart plant front t m j u n i

-- blocking intervals of one section never overlap: of two of them one ended before the other began
abbrev pub NeverOverlap : Plant → Front → Type 0
NeverOverlap plant front = (t m j u n i : ℕ) → IsStep plant front t m j → IsStep plant front u n i
    → step_section plant t m j ≡ step_section plant u n i → AreApart plant front t m j u n i
