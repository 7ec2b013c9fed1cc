-- What is noted of a history.
use Rattle.std.specs.Prelude.{◌≡◌, ℕ, ◌&&◌, Bool, true, List, [], length, get_or, nat_lt, IsTrue}
use Rattle.rail_base.specs.declared.history.What.{What}
use Rattle.rail_base.specs.declared.history.What.TheVariants.{Admit}
use Rattle.rail_base.specs.declared.limits.TheConstants.{ITINERARY_ROUTES}
use Rattle.rail_rules.specs.Accepted.{is_accepted, is_accepted_input}
use Rattle.rail_rules.specs.Fronts.{Front, admissions}
use Rattle.rail_rules.specs.Lawful.{is_lawful}
use Rattle.rail_rules.specs.Numbers.{listed}
use Rattle.rail_rules.specs.Orders.{Dispatch, input_of}
use Rattle.rail_rules.specs.Plant.{Plant, trains}
use Rattle.rail_stairs.specs.declared.stairs.Stairs.{Stairs}
use Rattle.rail_stairs.specs.Stairways.{ended_at}

-- the admissions noted of the train
abbrev pub noted_of : Stairs → ℕ → List ℕ
noted_of stairs t = get_or stairs.admissions.items t []

-- the lines of the front were noted: for each train the times of its admissions, and the time of the end line; the
-- plant may be run
pub record AreNoted (plant : Plant) (front : Front) (stairs : Stairs) : Type 0 where
  pub accepted : IsTrue (is_accepted plant)
  pub admissions : stairs.admissions.items ≡ listed (admissions front) (trains plant)
  pub ended : stairs.ended ≡ ended_at front

-- there is room to note a line that says this: of an admission, one more of its train
abbrev pub has_room : Stairs → What → Bool
has_room stairs (Admit t m note) = nat_lt t (length stairs.admissions.items) && nat_lt (length (noted_of stairs t)) ITINERARY_ROUTES
has_room stairs _ = true

-- the lines of a lawful front of an input that may be run were noted
pub record IsNoted (plant : Plant) (stairs : Stairs) : Type 0 where
  pub dispatch : Dispatch
  pub front : Front
  pub accepted : IsTrue (is_accepted_input (input_of dispatch plant))
  pub lawful : IsTrue (is_lawful (input_of dispatch plant) front)
  pub noted : AreNoted plant front stairs
