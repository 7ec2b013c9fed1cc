-- What is known of a train whose next move is to be admitted.
use Rattle.std.specs.Prelude.{◌≡◌, ℕ, suc, ◌<◌, ◌≤◌, ◌^◌, true, nat_lt, List, [], ◌∷◌, ◌++◌, length, Option, None}
use Rattle.std.specs.List.{list_all}
use Rattle.rail_rules.specs.Accepted.{are_distinct_numbers}
use Rattle.rail_rules.specs.Plant.{Plant, moves, trains}
use Rattle.rail_rules.specs.Fronts.{Front, admissions}
use Rattle.rail_rules.specs.Causes.{place}
use Rattle.rail_block.specs.CarriedTimes.{AreBelow, times_at}
use Rattle.rail_laws_step.specs.HolderTables.{held_cause}
use Rattle.rail_state.specs.declared.train.TrainState.{TrainState}
use Rattle.rail_state.specs.TrainStates.{state_of}

-- the train may be given its next move now: it has one left, was ready for it, and all its times are small
pub record IsGivable (plant : Plant) (front : Front) (states : List TrainState) (now t : ℕ) : Type 0 where
  pub many : length states ≡ trains plant
  pub known : t < trains plant
  pub left : place front t < moves plant t
  pub few : moves plant t < 65535
  pub place_is : (state_of states t).place ≡ place front t
  pub times_are : (state_of states t).times ≡ times_at plant t (admissions front t) (place front t)
  pub below : AreBelow (2 ^ 51) (state_of states t).times
  pub below_next : AreBelow (2 ^ 51) (times_at plant t (admissions front t ++ now ∷ []) (suc (place front t)))
  pub soon : now < 2 ^ 51
  pub ready : (state_of states t).times.next_ready ≤ now

-- a train, whose own overlap this is, may take these sections: they are known, none of them stands twice, and no holder bars the train
pub record CanBeTaken (holders : List (Option ℕ)) (t : ℕ) (own sections : List ℕ) : Type 0 where
  pub known : list_all (λ x. nat_lt x (length holders)) sections ≡ true
  pub distinct : are_distinct_numbers sections ≡ true
  pub free : held_cause holders t own sections ≡ None
