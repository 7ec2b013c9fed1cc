-- States of places, legal moves, and lists of moves.
use Rattle.std.specs.Prelude.{ℕ, suc, ◌==◌, Bool, not, ◌&&◌, nat_lt, nat_le, List, [], ◌∷◌, length, get_or, set}
use Rattle.std.specs.List.{list_any}
use Rattle.rail_rules.specs.Numbers.{any_below, all_below, is_in, are_apart}
use Rattle.rail_rules.specs.Moves.{Moves, stand}

-- the place of a train in a state, which lists the place of each train: how many moves the train has made
abbrev pub place_of : List ℕ → ℕ → ℕ
place_of s t = get_or s t 0

-- a train is inside after its first move and before its last
abbrev pub is_inside : Moves → List ℕ → ℕ → Bool
is_inside plan s t = nat_lt 0 (place_of s t) && nat_lt (place_of s t) (plan.moves t)

-- the train holds the section: it is in the standing set at the train's place
abbrev pub holds : Moves → List ℕ → ℕ → ℕ → Bool
holds plan s t x = is_in x (stand plan t (place_of s t))

-- some train holds the section
abbrev pub has_holder : Moves → List ℕ → ℕ → Bool
has_holder plan s x = any_below (λ u. holds plan s u x) (length s)

-- the next move of a train is legal: the train isn't out, and nobody holds a section that it claims
abbrev pub is_legal : Moves → List ℕ → ℕ → Bool
is_legal plan s t = nat_lt (place_of s t) (plan.moves t) && not (list_any (has_holder plan s) (plan.claim t (place_of s t)))

-- the state after a move of the train
abbrev pub after : List ℕ → ℕ → List ℕ
after s t = set s t (suc (place_of s t))

-- a state lists a place of each train, within its moves, and no two trains hold one section
abbrev pub is_valid_state : Moves → List ℕ → Bool
is_valid_state plan s = (length s == plan.trains)
    && all_below (λ t. nat_le (place_of s t) (plan.moves t)) (length s)
    && all_below (λ t. all_below (λ u. are_apart (stand plan t (place_of s t)) (stand plan u (place_of s u))) t) (length s)

-- no train is inside
abbrev pub nobody_inside : Moves → List ℕ → Bool
nobody_inside plan s = not (any_below (is_inside plan s) (length s))

-- the list completes: played move by move, each train is inside at its turn and its move is legal, and nobody is inside afterwards
abbrev pub completes : Moves → List ℕ → List ℕ → Bool
completes plan s [] = nobody_inside plan s
completes plan s (t ∷ rest) = let later = completes plan (after s t) rest in is_inside plan s t && is_legal plan s t && later
