-- Lists whose items differ.
use Rattle.std.specs.Prelude.{Bool, true, not, ◌&&◌, List, [], ◌∷◌}
use Rattle.std.specs.List.{list_any}

-- no item is alike to one after it
abbrev pub are_distinct : {X : Type 0} → (X → X → Bool) → List X → Bool
are_distinct alike [] = true
are_distinct alike (x ∷ xs) = not (list_any (alike x) xs) && are_distinct alike xs
