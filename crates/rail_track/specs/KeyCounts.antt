-- How often a key is counted.
use Rattle.std.specs.Prelude.{ℕ, Bool, unwrap_or}
use Rattle.indexmap.specs.IndexMap.{IndexMap, get}

-- the number that stands at the key, or 0
abbrev pub times : {K S : Type 0} → (K → K → Bool) → IndexMap K ℕ S → K → ℕ
times eq tally key = unwrap_or (get eq tally key) 0
