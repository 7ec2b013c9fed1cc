-- Where a section is taken before the one for which a train is held, the train is told its new cause at once.
use Rattle.std.specs.Prelude.{[], ◌∷◌}
use Rattle.rail_base.specs.declared.history.What.TheVariants.{Free, Arrive, Enter, Out, Ready, Admit, Hold, End}
use Rattle.rail_base.specs.declared.history.Note.TheVariants.{Pulled, Appended}
use Rattle.rail_base.specs.declared.history.Cause.TheVariants.{Blocked, NoList}
use Rattle.rail_rules.specs.Fronts.{Line, Front}

-- the lines before the first wrong one, the newest first
abbrev pub before : Front
before =
    record { entry = record { at = 1900; what = Admit 0 3 Pulled }; trains = [] } ∷
    record { entry = record { at = 1900; what = Ready 0 3 }; trains = [] } ∷
    record { entry = record { at = 1676; what = Free 1 0 }; trains = [] } ∷
    record { entry = record { at = 1656; what = Free 0 0 }; trains = [] } ∷
    record { entry = record { at = 1620; what = Enter 0 2 2 }; trains = [] } ∷
    record { entry = record { at = 1600; what = Enter 0 2 1 }; trains = [] } ∷
    record { entry = record { at = 1600; what = Arrive 0 1 }; trains = [] } ∷
    record { entry = record { at = 1480; what = Hold 1 1 (Blocked 2 0) }; trains = [] } ∷
    record { entry = record { at = 1480; what = Admit 0 2 Pulled }; trains = [] } ∷
    record { entry = record { at = 1480; what = Ready 0 2 }; trains = [] } ∷
    record { entry = record { at = 1200; what = Enter 0 1 0 }; trains = [] } ∷
    record { entry = record { at = 1080; what = Hold 1 1 NoList }; trains = [] } ∷
    record { entry = record { at = 1080; what = Admit 0 1 Appended }; trains = [] } ∷
    record { entry = record { at = 1080; what = Ready 1 1 }; trains = [] } ∷
    record { entry = record { at = 1080; what = Ready 0 1 }; trains = [] } ∷
    []

-- the first wrong line
abbrev pub wrong : Line
wrong = record { entry = record { at = 2020; what = Arrive 0 2 }; trains = [] }

-- the whole history
abbrev pub front : Front
front =
    record { entry = record { at = 3912; what = End }; trains = [] } ∷
    record { entry = record { at = 3912; what = Free 0 1 }; trains = [] } ∷
    record { entry = record { at = 3892; what = Out 1 }; trains = [] } ∷
    record { entry = record { at = 3856; what = Arrive 1 2 }; trains = [] } ∷
    record { entry = record { at = 3512; what = Free 1 1 }; trains = [] } ∷
    record { entry = record { at = 3492; what = Free 2 1 }; trains = [] } ∷
    record { entry = record { at = 3456; what = Enter 1 2 0 }; trains = [] } ∷
    record { entry = record { at = 3436; what = Enter 1 2 1 }; trains = [] } ∷
    record { entry = record { at = 3436; what = Arrive 1 1 }; trains = [] } ∷
    record { entry = record { at = 3316; what = Admit 1 2 Pulled }; trains = [] } ∷
    record { entry = record { at = 3316; what = Ready 1 2 }; trains = [] } ∷
    record { entry = record { at = 3092; what = Free 4 1 }; trains = [] } ∷
    record { entry = record { at = 3072; what = Free 5 1 }; trains = [] } ∷
    record { entry = record { at = 3036; what = Enter 1 1 2 }; trains = [] } ∷
    record { entry = record { at = 3016; what = Enter 1 1 4 }; trains = [] } ∷
    record { entry = record { at = 2516; what = Enter 1 1 5 }; trains = [] } ∷
    record { entry = record { at = 2496; what = Admit 1 1 Appended }; trains = [] } ∷
    record { entry = record { at = 2496; what = Free 5 0 }; trains = [] } ∷
    record { entry = record { at = 2476; what = Out 0 }; trains = [] } ∷
    record { entry = record { at = 2440; what = Arrive 0 3 }; trains = [] } ∷
    record { entry = record { at = 2096; what = Free 4 0 }; trains = [] } ∷
    record { entry = record { at = 2076; what = Hold 1 1 (Blocked 5 0) }; trains = [] } ∷
    record { entry = record { at = 2076; what = Free 2 0 }; trains = [] } ∷
    record { entry = record { at = 2040; what = Enter 0 3 5 }; trains = [] } ∷
    record { entry = record { at = 2020; what = Enter 0 3 4 }; trains = [] } ∷
    wrong ∷ before
