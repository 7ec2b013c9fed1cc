-- What callers see of chains of slots.
use Rattle.std.specs.Prelude.{◌≡◌, ℕ, suc, ◌+◌, ◌<◌, eqb, cond, List, [], ◌∷◌, ◌++◌, length, get_or, Option, Some, None, refl}
use Rattle.std.specs.Coded.{Coded, code_by, coded×, coded_ℕ, coded_list}

-- the chains, each the list of its slots with their items, how many more items there is room for, how many steps were made, and
-- for how many cells memory was taken
pub record Room (T : Type 0) : Type 0 where
  pub chains : List (List (ℕ × T))
  pub spare : ℕ
  pub walked : ℕ
  pub room : ℕ

-- a room is stored as its chains and its three numbers
abbrev pub room_code : {T : Type 0} → Coded T → Coded (Room T)
room_code {T} code =
    code_by (List (List (ℕ × T)) × (ℕ × (ℕ × ℕ))) (coded× (coded_list (coded_list (coded× coded_ℕ code))) (coded× coded_ℕ (coded× coded_ℕ coded_ℕ)))
    (λ r. (r.chains, (r.spare, (r.walked, r.room)))) (λ p. record { chains = p.0; spare = p.1.0; walked = p.1.1.0; room = p.1.1.1 }) (λ _. refl)

-- the slot stands in the chain, between the slots before it and the rest
pub record StandsAt {T : Type 0} (chains : List (List (ℕ × T))) (slot chain : ℕ) (before : List (ℕ × T)) (item : T) (rest : List (ℕ × T)) : Type 0 where
  pub within : chain < length chains
  pub is : get_or chains chain [] ≡ before ++ (slot, item) ∷ rest

-- the slot stands in a chain: it is in use
pub record Stands {T : Type 0} (chains : List (List (ℕ × T))) (slot : ℕ) : Type 0 where
  pub chain : ℕ
  pub before : List (ℕ × T)
  pub item : T
  pub rest : List (ℕ × T)
  pub at : StandsAt chains slot chain before item rest

-- the first slot of a chain
abbrev pub first_slot : {T : Type 0} → List (ℕ × T) → Option ℕ
first_slot [] = None
first_slot (first ∷ rest) = Some first.0

-- the item of the first slot
abbrev pub first_item : {T : Type 0} → List (ℕ × T) → Option T
first_item [] = None
first_item (first ∷ rest) = Some first.1

-- a chain without its first slot
abbrev pub behind_first : {T : Type 0} → List (ℕ × T) → List (ℕ × T)
behind_first [] = []
behind_first (first ∷ rest) = rest

-- how often a slot stands in a chain
abbrev pub times_in : {T : Type 0} → ℕ → List (ℕ × T) → ℕ
times_in slot [] = 0
times_in slot (first ∷ rest) = cond (eqb first.0 slot) 1 0 + times_in slot rest

-- in how many places of the chains a slot stands
abbrev pub places : {T : Type 0} → List (List (ℕ × T)) → ℕ → ℕ
places [] slot = 0
places (chain ∷ chains) slot = times_in slot chain + places chains slot

-- how many slots of a chain come from a slot on, this one counted; none where it doesn't stand there
abbrev pub slots_from : {T : Type 0} → ℕ → List (ℕ × T) → ℕ
slots_from slot [] = 0
slots_from slot (first ∷ rest) = cond (eqb first.0 slot) (suc (length rest)) (slots_from slot rest)

-- how many slots come from a slot in use to the end of its chain, this one counted
abbrev pub left_from : {T : Type 0} → List (List (ℕ × T)) → ℕ → ℕ
left_from [] slot = 0
left_from (chain ∷ chains) slot = slots_from slot chain + left_from chains slot
