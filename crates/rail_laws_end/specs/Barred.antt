-- For which orders the trains that remain at the end of a history wait.
use Rattle.std.specs.Prelude.{◌≡◌, ℕ, suc, ◌<◌, false, IsTrue, List, ◌∷◌, Option, Some}
use Rattle.rail_base.specs.declared.history.Cause.{Cause}
use Rattle.rail_base.specs.declared.history.Cause.TheVariants.{Stopped, Closed, Blocked, NoList}
use Rattle.rail_rules.specs.Numbers.{is_in}
use Rattle.rail_rules.specs.Plant.{trains, claimed}
use Rattle.rail_rules.specs.Fronts.{Front, kept}
use Rattle.rail_rules.specs.Orders.{Input, told, is_closed, is_stopped, is_cancelled}
use Rattle.rail_rules.specs.Causes.{place, last_hold}
use Rattle.rail_rules.specs.Lawful.{is_out}

-- the cause on the last hold line of the train's next move
abbrev pub waits_for : Front → ℕ → Option Cause
waits_for front t = last_hold front t (suc (place front t))

-- a train of the plant that is neither out nor cancelled
pub record Remains (input : Input) (front : Front) (t : ℕ) : Type 0 where
  pub known : t < trains input.plant
  pub not_out : is_out front t ≡ false
  pub not_cancelled : is_cancelled t (told input.commands front) ≡ false

-- an order bars the train, and its last hold line says so: a stop for it is in force, or a section that its next move claims
-- is closed
pub data IsBarred (input : Input) (front : Front) (t : ℕ) : Type 0 where
  by_stop : waits_for front t ≡ Some Stopped → IsTrue (is_stopped t (told input.commands front)) → IsBarred input front t
  by_closure : (x : ℕ) → waits_for front t ≡ Some (Closed x) → IsTrue (is_in x (claimed input.plant t (place front t)))
      → IsTrue (is_closed x (told input.commands front)) → IsBarred input front t

-- the train waits for the other: its last hold line says that a section is blocked by the other, or that no list is known,
-- where the other is the first of the kept list
pub data WaitsOn (input : Input) (front : Front) (t u : ℕ) : Type 0 where
  by_section : (x : ℕ) → waits_for front t ≡ Some (Blocked x u) → WaitsOn input front t u
  by_list : (rest : List ℕ) → waits_for front t ≡ Some NoList → kept input.plant front ≡ u ∷ rest → WaitsOn input front t u

-- the train is barred itself, or it waits for one that is, or for one that waits for one, and so on, in at most so many steps
pub data LeadsToBarred (input : Input) (front : Front) : ℕ → ℕ → Type 0 where
  here : (t n : ℕ) → IsBarred input front t → LeadsToBarred input front t n
  onward : (t u n : ℕ) → WaitsOn input front t u → LeadsToBarred input front u n → LeadsToBarred input front t (suc n)
