-- A train that is cancelled before its first admission is never ready.
use Rattle.std.specs.Prelude.{[], ◌∷◌}
use Rattle.rail_base.specs.declared.history.What.TheVariants.{Ready, Told, End}
use Rattle.rail_rules.specs.Fronts.{Line, Front}

-- the lines before the first wrong one, the newest first
abbrev pub before : Front
before =
    record { entry = record { at = 100; what = Told 1 }; trains = [] } ∷
    []

-- the first wrong line
abbrev pub wrong : Line
wrong = record { entry = record { at = 1080; what = Ready 0 1 }; trains = [] }

-- the whole history
abbrev pub front : Front
front =
    record { entry = record { at = 1080; what = End }; trains = [] } ∷
    wrong ∷ before
