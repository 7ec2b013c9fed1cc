-- What is known of the holders of a section, train by train.
use Rattle.std.specs.Prelude.{◌≡◌, ℕ, ◌<◌, ◌==◌, true, false, cond, List, [], ◌∷◌, length, get_or, set, Option, Some, None}
use Rattle.rail_rules.specs.Moves.{Moves}
use Rattle.rail_rules.specs.Places.{holds}
use Rattle.rail_place.specs.declared.barring.PlacesFault.{PlacesFault}
use Rattle.rail_place.specs.declared.barring.PlacesFault.TheVariants.{Overlap, OutOfMemory}
use Rattle.rail_place.specs.declared.holdings.Holding.{Holding}
use Rattle.rail_place.specs.declared.holdings.Holding.TheVariants.{Free, One, Two}

-- one train more
abbrev pub with_train : Holding → ℕ → Holding
with_train Free t = One t
with_train (One a) t = cond (a == t) (One a) (Two a t)
with_train (Two a b) t = Two a b

-- one train more on each of the sections
abbrev pub taken_up : List Holding → List ℕ → ℕ → List Holding
taken_up holdings [] t = holdings
taken_up holdings (x ∷ xs) t = taken_up (set holdings x (with_train (get_or holdings x Free) t)) xs t

-- it tells of the trains below n: none holds the section, or one, or these are the two least that do
abbrev pub TellsBelow : Moves → List ℕ → ℕ → ℕ → Holding → Type 0
TellsBelow plan s x n Free = (u : ℕ) → u < n → holds plan s u x ≡ false
TellsBelow plan s x n (One a) = (a < n) × (holds plan s a x ≡ true) × ((u : ℕ) → u < n → holds plan s u x ≡ true → u ≡ a)
TellsBelow plan s x n (Two a b) = (a < b) × (b < n) × (holds plan s a x ≡ true) × (holds plan s b x ≡ true)
    × ((u : ℕ) → u < b → holds plan s u x ≡ true → u ≡ a)

-- the owner of a section that no two trains hold
abbrev pub owner_in : Holding → Option ℕ
owner_in Free = None
owner_in (One a) = Some a
owner_in (Two a b) = None

-- two trains hold the section
abbrev pub IsShared : Holding → Type 0
IsShared Free = ⊥
IsShared (One a) = ⊥
IsShared (Two a b) = Unit {0}

-- the fault names the first section that two trains hold
abbrev pub IsFirstShared : List Holding → PlacesFault → Type 0
IsFirstShared holdings OutOfMemory = Unit {0}
IsFirstShared holdings (Overlap x a b) = (x < length holdings) × (get_or holdings x Free ≡ Two a b)
    × ((y : ℕ) → y < x → IsShared (get_or holdings y Free) → ⊥)
