-- A section is given free once the tail has cleared it and the release time has passed, and not as the head leaves it.
use Rattle.std.specs.Prelude.{[], ◌∷◌}
use Rattle.rail_base.specs.declared.history.What.TheVariants.{Free, Arrive, Enter, Out, Ready, Admit, End}
use Rattle.rail_base.specs.declared.history.Note.TheVariants.{Appended}
use Rattle.rail_rules.specs.Fronts.{Line, Front}

-- the lines before the first wrong one, the newest first
abbrev pub before : Front
before =
    record { entry = record { at = 1200; what = Enter 0 1 0 }; trains = [] } ∷
    record { entry = record { at = 1080; what = Admit 0 1 Appended }; trains = [] } ∷
    record { entry = record { at = 1080; what = Ready 0 1 }; trains = [] } ∷
    []

-- the first wrong line
abbrev pub wrong : Line
wrong = record { entry = record { at = 1600; what = Free 0 0 }; trains = [] }

-- the whole history
abbrev pub front : Front
front =
    record { entry = record { at = 2436; what = End }; trains = [] } ∷
    record { entry = record { at = 2436; what = Out 0 }; trains = [] } ∷
    record { entry = record { at = 2400; what = Arrive 0 1 }; trains = [] } ∷
    record { entry = record { at = 2400; what = Free 2 0 }; trains = [] } ∷
    record { entry = record { at = 2000; what = Enter 0 1 2 }; trains = [] } ∷
    record { entry = record { at = 2000; what = Free 1 0 }; trains = [] } ∷
    record { entry = record { at = 1600; what = Enter 0 1 1 }; trains = [] } ∷
    wrong ∷ before
