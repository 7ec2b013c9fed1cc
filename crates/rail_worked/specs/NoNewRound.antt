-- Once a section is given free for which a train waits, the trains that wait are looked at again before any other event.
use Rattle.std.specs.Prelude.{[], ◌∷◌}
use Rattle.rail_base.specs.declared.history.What.TheVariants.{Free, Arrive, Enter, Out, Ready, Admit, Hold, End}
use Rattle.rail_base.specs.declared.history.Note.TheVariants.{Pulled, Appended}
use Rattle.rail_base.specs.declared.history.Cause.TheVariants.{Blocked}
use Rattle.rail_rules.specs.Fronts.{Line, Front}

-- the lines before the first wrong one, the newest first
abbrev pub before : Front
before =
    record { entry = record { at = 1656; what = Free 0 0 }; trains = [] } ∷
    record { entry = record { at = 1600; what = Enter 0 2 1 }; trains = [] } ∷
    record { entry = record { at = 1600; what = Arrive 0 1 }; trains = [] } ∷
    record { entry = record { at = 1480; what = Admit 0 2 Pulled }; trains = [] } ∷
    record { entry = record { at = 1480; what = Ready 0 2 }; trains = [] } ∷
    record { entry = record { at = 1200; what = Enter 0 1 0 }; trains = [] } ∷
    record { entry = record { at = 1080; what = Hold 1 1 (Blocked 0 0) }; trains = [] } ∷
    record { entry = record { at = 1080; what = Admit 0 1 Appended }; trains = [] } ∷
    record { entry = record { at = 1080; what = Ready 1 1 }; trains = [] } ∷
    record { entry = record { at = 1080; what = Ready 0 1 }; trains = [] } ∷
    []

-- the first wrong line
abbrev pub wrong : Line
wrong = record { entry = record { at = 1880; what = Ready 0 3 }; trains = [] }

-- the whole history
abbrev pub front : Front
front =
    record { entry = record { at = 2456; what = End }; trains = 1 ∷ [] } ∷
    record { entry = record { at = 2456; what = Free 2 0 }; trains = [] } ∷
    record { entry = record { at = 2436; what = Out 0 }; trains = [] } ∷
    record { entry = record { at = 2400; what = Arrive 0 3 }; trains = [] } ∷
    record { entry = record { at = 2056; what = Free 1 0 }; trains = [] } ∷
    record { entry = record { at = 2000; what = Enter 0 3 2 }; trains = [] } ∷
    record { entry = record { at = 2000; what = Arrive 0 2 }; trains = [] } ∷
    record { entry = record { at = 1880; what = Admit 0 3 Pulled }; trains = [] } ∷
    wrong ∷ before
