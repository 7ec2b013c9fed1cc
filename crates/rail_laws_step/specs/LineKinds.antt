-- Lines of a train by their kind, and the box of the policy that admits in order of the ready times.
use Rattle.std.specs.Prelude.{ℕ, ◌==◌, Bool, false}
use Rattle.rail_base.specs.declared.history.What.{What}
use Rattle.rail_base.specs.declared.history.What.TheVariants.{Ready}

-- the line says that a move of the train is ready
abbrev pub is_ready_line : ℕ → What → Bool
is_ready_line t (Ready u m) = u == t
is_ready_line t _ = false
