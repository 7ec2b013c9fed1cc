-- Legs, safe and free, and whether some list of legs brings every train inside to its exit.
use Rattle.std.specs.Prelude.{ℕ, zero, suc, ◌+◌, ◌-◌, ◌≤◌, ◌==◌, Bool, not, ◌&&◌, ◌||◌, cond, nat_lt, nat_le, List, [], ◌∷◌, length, set, IsTrue}
use Rattle.rail_rules.specs.Numbers.{any_below, all_below, sum_below, are_apart}
use Rattle.rail_rules.specs.Moves.{Moves, stand}
use Rattle.rail_rules.specs.Places.{place_of, is_inside, is_legal, nobody_inside}

-- consecutive moves of one train, up to a place
pub record Leg : Type 0 where
  pub train : ℕ
  pub place : ℕ

-- from the state the train, which is inside, goes on to the place by one or more legal moves, while all others stand
abbrev pub is_leg : Moves → List ℕ → Leg → Bool
is_leg plan s leg = is_inside plan s leg.train
    && nat_lt (place_of s leg.train) leg.place
    && nat_le leg.place (plan.moves leg.train)
    && all_below (λ i. nat_lt i (place_of s leg.train) || is_legal plan (set s leg.train i) leg.train) leg.place

-- the state after the leg
abbrev pub after_leg : List ℕ → Leg → List ℕ
after_leg s leg = set s leg.train leg.place

-- a train inside claims one of the sections for a move that it has left
abbrev pub needs_later : Moves → List ℕ → List ℕ → ℕ → Bool
needs_later plan s sections u = is_inside plan s u
    && any_below (λ i. nat_le (place_of s u) i && not (are_apart (plan.claim u i) sections)) (plan.moves u)

-- a leg is safe where it ends out, or where no other train inside claims a section of its last standing set later; every other leg is free
abbrev pub is_safe : Moves → List ℕ → Leg → Bool
is_safe plan s leg = (leg.place == plan.moves leg.train)
    || not (any_below (λ u. not (u == leg.train) && needs_later plan s (stand plan leg.train leg.place) u) (length s))

-- the legs, each from where the one before ended, bring every train inside to its exit
abbrev pub clears : Moves → List ℕ → List Leg → Bool
clears plan s [] = nobody_inside plan s
clears plan s (leg ∷ legs) = let later = clears plan (after_leg s leg) legs in is_leg plan s leg && later

-- how many of the legs are free
abbrev pub free_legs : Moves → List ℕ → List Leg → ℕ
free_legs plan s [] = 0
free_legs plan s (leg ∷ legs) = cond (is_safe plan s leg) 0 1 + free_legs plan (after_leg s leg) legs

-- some list of legs, at most k of them free, brings every train inside to its exit
abbrev pub Finds : Moves → ℕ → List ℕ → Type 0
Finds plan k s = (legs : List Leg) × IsTrue (clears plan s legs) × (free_legs plan s legs ≤ k)

-- how many moves the trains have left
abbrev pub moves_left : Moves → List ℕ → ℕ
moves_left plan s = sum_below (λ t. plan.moves t - place_of s t) (length s)

-- the same by trying every list of at most so many legs
abbrev pub finds_within : Moves → ℕ → ℕ → List ℕ → Bool
finds_within plan zero k s = nobody_inside plan s
finds_within plan (suc legs) k s = nobody_inside plan s
    || any_below (λ t. any_below (λ p.
    let leg : Leg = record { train = t; place = p } in
    let safe_on = finds_within plan legs k (after_leg s leg) in
    let free_on = finds_within plan legs (k - 1) (after_leg s leg) in
    is_leg plan s leg && cond (is_safe plan s leg) safe_on (nat_lt 0 k && free_on)) (suc (plan.moves t))) (length s)

-- the same computed: no list has more legs than there are moves left
abbrev pub finds : Moves → ℕ → List ℕ → Bool
finds plan k s = finds_within plan (moves_left plan s) k s
