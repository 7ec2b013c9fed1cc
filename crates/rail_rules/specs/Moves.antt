-- What the analysis knows of a plant: which sections each move claims, and where each train stands.
use Rattle.std.specs.Prelude.{ℕ, zero, suc, ◌-◌, Bool, ◌&&◌, cond, nat_lt, List, [], length}
use Rattle.std.specs.List.{list_all}
use Rattle.rail_rules.specs.Numbers.{all_below, is_in, are_apart}

-- the moves of each train; moves and places are counted from 0, so that the train at place i makes its move i next
pub record Moves : Type 0 where
  pub trains : ℕ
  -- how many moves a train has
  pub moves : ℕ → ℕ
  -- the sections that a move claims, in route order
  pub claim : ℕ → ℕ → List ℕ
  -- the sections on which the train stands after a move that isn't its last
  pub standing : ℕ → ℕ → List ℕ

-- the standing set: the sections that a train at a place holds; outside and out it holds none
abbrev pub stand : Moves → ℕ → ℕ → List ℕ
stand plan t zero = []
stand plan t (suc m) = cond (nat_lt (suc m) (plan.moves t)) (plan.standing t m) []

-- after this move, which isn't the last, the train stands on sections of the move, and its next move claims none of them
abbrev pub is_valid_move : Moves → ℕ → ℕ → Bool
is_valid_move plan t m = nat_lt 0 (length (stand plan t (suc m)))
    && list_all (λ x. is_in x (plan.claim t m)) (stand plan t (suc m))
    && are_apart (plan.claim t (suc m)) (stand plan t (suc m))

-- a valid plant: so is each move of each train that isn't the train's last
abbrev pub is_valid : Moves → Bool
is_valid plan = all_below (λ t. all_below (is_valid_move plan t) (plan.moves t - 1)) plan.trains
