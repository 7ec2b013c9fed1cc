-- The fields of a record by their places.
use Rattle.std.proofs.Common.{◌≡◌, ℕ, suc, zero, List, [], ◌∷◌, get_or, None, refl}
use Rattle.csv.specs.Records.{field_at}

-- no field stands at the place
pub field_none : (fields : List (List ℕ)) (i : ℕ) → field_at fields i ≡ None → get_or fields i [] ≡ []
unfolding field_at
field_none [] i h = refl
field_none (f ∷ fs) zero h = cc
field_none (f ∷ fs) (suc i) h = field_none fs i h
