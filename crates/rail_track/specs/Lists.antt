-- Lists of items that are found by a test.
use Rattle.std.specs.Prelude.{◌≡◌, ℕ, ◌≤◌, Bool, List, [], ◌∷◌, cond, length, insert}

-- the list without its first item that passes the test
abbrev pub without : {X : Type 0} → (X → Bool) → List X → List X
without test [] = []
without test (x ∷ xs) = cond (test x) xs (x ∷ without test xs)

-- an item stood at the index: put in there again, it gives the whole list
pub record StoodAt {X : Type 0} (x : X) (rest whole : List X) (index : ℕ) : Type 0 where
  pub within : index ≤ length rest
  pub again : insert rest index x ≡ whole
