-- What a write adds to the bytes of a sink.
use Rattle.std.specs.Prelude.{◌≡◌, ℕ, List, take, drop, Option, Some}
use Rattle.std.specs.Io.KnownBytes.{append_known}

-- bytes told after a call were told before it, and are those followed by `bytes`
pub record Adds (old new : Option (List ℕ)) (bytes : List ℕ) : Type 0 where
  pub appended : (after : List ℕ) → new ≡ Some after → append_known old bytes ≡ Some after

-- some first part of `bytes` was added
pub record AddsPrefix (old new : Option (List ℕ)) (bytes : List ℕ) : Type 0 where
  pub count : ℕ
  pub added : Adds old new (take count bytes)

-- of the bytes that were held, some first part was added, and the others are held
pub record HandsOn (old : Option (List ℕ)) (held : List ℕ) (new : Option (List ℕ)) (left : List ℕ) : Type 0 where
  pub count : ℕ
  pub added : Adds old new (take count held)
  pub rest : left ≡ drop count held
