-- Words that are read as names.
use Rattle.std.proofs.Common.{◌≡◌, ℕ, Bool, true, false, List, Some, None, if◌then◌else◌, refl}
use Rattle.rail_base.specs.NameForms.{is_name}

-- a word that is read as a name is that name
pub read_as : (word name : List ℕ) → Some name ≡ (if is_name word then Some word else None) → (name ≡ word) × (is_name word ≡ true)
read_as word name is = by (is_name word) is
  where
    by : (b : Bool) → Some name ≡ (if b then Some word else None) → (name ≡ word) × (b ≡ true)
    by true is = (cc, refl)
    by false is = cc
