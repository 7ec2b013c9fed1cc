-- The times that are carried.
use Rattle.std.proofs.Common.{◌≡◌, ℕ, ◌<◌, false, List, ◌∷◌, length, sym, ap, ◌∙◌}
use Rattle.rail_rules.specs.Plant.{Plant, trains}
use Rattle.rail_rules.specs.Fronts.{Line, Front, is_admission}
use Rattle.rail_rules.specs.Causes.{place}
use Rattle.rail_rules.proofs.CallerLemmas.{admissions_kept}
use Rattle.rail_block.specs.CarriedTimes.{times_at}
use Rattle.rail_state.specs.declared.train.TrainState.{TrainState}
use Rattle.rail_state.specs.TrainStates.{state_of}
use Rattle.rail_state.specs.Representation.{AreTimes}

-- a part of each train is kept
abbrev pub IsSame : {B : Type 0} → (TrainState → B) → Plant → List TrainState → List TrainState → Type 0
IsSame part plant states after = (t : ℕ) → t < trains plant → part (state_of after t) ≡ part (state_of states t)

pub place_kept : (line : Line) (front : Front) (t : ℕ) → is_admission line.entry.what ≡ false → place (line ∷ front) t ≡ place front t
place_kept line front t idle = ap length (admissions_kept line front t idle)

-- a line that is no admission leaves the times
pub times_kept : (plant : Plant) (line : Line) (front : Front) (states after : List TrainState) → is_admission line.entry.what ≡ false
    → length after ≡ length states → IsSame (λ r. r.place) plant states after → IsSame (λ r. r.times) plant states after
    → AreTimes plant front states → AreTimes plant (line ∷ front) after
times_kept plant line front states after idle long places times are = record {
  many = long ∙ are.many;
  places = λ t lt. places t lt ∙ are.places t lt ∙ sym (place_kept line front t idle);
  times = λ t lt. times t lt ∙ are.times t lt ∙ sym (ap (λ adms. times_at plant t adms (length adms)) (admissions_kept line front t idle));
}
