-- Which states are ahead of others, and which trains are the core of a search that failed.
use Rattle.std.specs.Prelude.{◌≡◌, ◌≢◌, ℕ, ◌<◌, ◌≤◌, Bool, true, ◌&&◌, List, [], ◌∷◌, length, IsTrue, ◌⊎◌}
use Rattle.rail_rules.specs.Numbers.{are_apart}
use Rattle.rail_rules.specs.Moves.{Moves, stand}
use Rattle.rail_rules.specs.Places.{place_of, is_inside}
use Rattle.rail_rules.specs.Analysis.{Leg, is_leg, is_safe, after_leg, Finds}

-- no other train inside needs the sections later
abbrev pub IsClear : Moves → List ℕ → ℕ → List ℕ → Type 0
IsClear plan s t sections = (u i : ℕ) → u ≢ t → is_inside plan s u ≡ true → place_of s u ≤ i → i < plan.moves u → are_apart (plan.claim u i) sections ≡ true

-- one state is ahead of the other: who is inside there, stands where it stood, or further on where no other train inside needs later what it stands on
pub record IsAhead (plan : Moves) (s ahead : List ℕ) : Type 0 where
  pub long : length ahead ≡ length s
  pub entered : (t : ℕ) → is_inside plan ahead t ≡ true → 0 < place_of s t
  pub later : (t : ℕ) → is_inside plan ahead t ≡ true → place_of s t ≤ place_of ahead t
  pub clear : (t : ℕ) → is_inside plan ahead t ≡ true → (place_of s t ≡ place_of ahead t) ⊎ IsClear plan ahead t (stand plan t (place_of ahead t))

-- each state of which the one is ahead, has the later one ahead
abbrev pub LeadsAhead : Moves → List ℕ → List ℕ → Type 0
LeadsAhead plan s later = (start : List ℕ) → IsAhead plan start s → IsAhead plan start later

-- each leg is one from where the one before ended, and safe there
abbrev pub are_safe_legs : Moves → List ℕ → List Leg → Bool
are_safe_legs plan s [] = true
are_safe_legs plan s (leg ∷ legs) = let later = are_safe_legs plan (after_leg s leg) legs in is_leg plan s leg && is_safe plan s leg && later

-- the state after the legs
abbrev pub after_legs : List ℕ → List Leg → List ℕ
after_legs s [] = s
after_legs s (leg ∷ legs) = after_legs (after_leg s leg) legs

-- the trains of the core stand in both states at the same places
abbrev pub StandAlike : (ℕ → Bool) → List ℕ → List ℕ → Type 0
StandAlike core s r = (t : ℕ) → IsTrue (core t) → place_of r t ≡ place_of s t

-- some trains are a core: nothing is found, by as many free legs, from any state in which they stand where they stand in this one
abbrev pub IsCore : Moves → ℕ → List ℕ → (ℕ → Bool) → Type 0
IsCore plan k s core = (r : List ℕ) → length r ≡ length s → StandAlike core s r → Finds plan k r → ⊥
