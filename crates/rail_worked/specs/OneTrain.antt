-- One train over three sections.
use Rattle.std.specs.Prelude.{ℕ, codes, List, [], ◌∷◌, None}
use Rattle.rail_base.specs.declared.orders.PolicyKind.TheVariants as kind
use Rattle.rail_base.specs.declared.history.What.TheVariants.{Free, Arrive, Enter, Out, Ready, Admit, End}
use Rattle.rail_base.specs.declared.history.Note.TheVariants.{Appended}
use Rattle.rail_rules.specs.Plant.{Plant}
use Rattle.rail_rules.specs.Orders.{Input}
use Rattle.rail_rules.specs.Fronts.{Front}
use Rattle.rail_rules.specs.RunHistories.{Seat}
use Rattle.rail_worked.specs.Lines.{lines}

-- the plant
abbrev pub plant : Plant
plant = record {
  tables = record {
    sections = record { name = 88 ∷ 49 ∷ []; length = 1000; speed = 90 } ∷ record { name = 88 ∷ 50 ∷ []; length = 1000; speed = 90 } ∷ record { name = 88 ∷ 51 ∷ []; length = 1000; speed = 90 } ∷ [];
    release = 20;
    overlap_time = 0;
    depth = 1;
    trains = record { name = 65 ∷ []; kind = record { name = 82 ∷ []; length = 90; speed = 90; start = 100; stop = 50 }; entry = 1200; priority = 0; moves = record { sections = 0 ∷ 1 ∷ 2 ∷ []; overlap = []; setting = 10; watching = 10; approach = 100; turn = None } ∷ [] } ∷ [];
  };
  calls = [];
}

-- the boxes of the deck
abbrev pub seats : List Seat
seats = record { name = 112 ∷ 114 ∷ 105 ∷ 111 ∷ 114 ∷ 105 ∷ 116 ∷ 121 ∷ []; kind = kind.Priority; mark = 0 } ∷ record { name = 116 ∷ 105 ∷ 109 ∷ 101 ∷ 116 ∷ 97 ∷ 98 ∷ 108 ∷ 101 ∷ []; kind = kind.Timetable; mark = 0 } ∷ record { name = 102 ∷ 99 ∷ 102 ∷ 115 ∷ []; kind = kind.Fcfs; mark = 0 } ∷ record { name = 114 ∷ 111 ∷ 116 ∷ 97 ∷ 116 ∷ 105 ∷ 110 ∷ 103 ∷ []; kind = kind.Rotating; mark = 0 } ∷ []

-- the input
abbrev pub input : Input
input = record { plant = plant; commands = []; deck = (112 ∷ 114 ∷ 105 ∷ 111 ∷ 114 ∷ 105 ∷ 116 ∷ 121 ∷ []) ∷ (116 ∷ 105 ∷ 109 ∷ 101 ∷ 116 ∷ 97 ∷ 98 ∷ 108 ∷ 101 ∷ []) ∷ (102 ∷ 99 ∷ 102 ∷ 115 ∷ []) ∷ (114 ∷ 111 ∷ 116 ∷ 97 ∷ 116 ∷ 105 ∷ 110 ∷ 103 ∷ []) ∷ []; force = 2 }

-- the printed history, its lines the newest first
abbrev pub front : Front
front =
    record { entry = record { at = 2456; what = End }; trains = [] } ∷
    record { entry = record { at = 2456; what = Free 2 0 }; trains = [] } ∷
    record { entry = record { at = 2436; what = Out 0 }; trains = [] } ∷
    record { entry = record { at = 2400; what = Arrive 0 1 }; trains = [] } ∷
    record { entry = record { at = 2056; what = Free 1 0 }; trains = [] } ∷
    record { entry = record { at = 2000; what = Enter 0 1 2 }; trains = [] } ∷
    record { entry = record { at = 1656; what = Free 0 0 }; trains = [] } ∷
    record { entry = record { at = 1600; what = Enter 0 1 1 }; trains = [] } ∷
    record { entry = record { at = 1200; what = Enter 0 1 0 }; trains = [] } ∷
    record { entry = record { at = 1080; what = Admit 0 1 Appended }; trains = [] } ∷
    record { entry = record { at = 1080; what = Ready 0 1 }; trains = [] } ∷
    []

-- its text
abbrev pub printed : List ℕ
printed = lines (codes "00:01:48.0 ready A 1" ∷ codes "00:01:48.0 admit A 1 appended" ∷ codes "00:02:00.0 enter A 1 X1" ∷ codes "00:02:40.0 enter A 1 X2" ∷ codes "00:02:45.6 free X1 A" ∷ codes "00:03:20.0 enter A 1 X3" ∷ codes "00:03:25.6 free X2 A" ∷ codes "00:04:00.0 arrive A 1" ∷ codes "00:04:03.6 out A" ∷ codes "00:04:05.6 free X3 A" ∷ codes "00:04:05.6 end" ∷ [])

-- the history with the time of one line a tenth later
abbrev pub changed : Front
changed =
    record { entry = record { at = 2456; what = End }; trains = [] } ∷
    record { entry = record { at = 2456; what = Free 2 0 }; trains = [] } ∷
    record { entry = record { at = 2436; what = Out 0 }; trains = [] } ∷
    record { entry = record { at = 2400; what = Arrive 0 1 }; trains = [] } ∷
    record { entry = record { at = 2056; what = Free 1 0 }; trains = [] } ∷
    record { entry = record { at = 2000; what = Enter 0 1 2 }; trains = [] } ∷
    record { entry = record { at = 1657; what = Free 0 0 }; trains = [] } ∷
    record { entry = record { at = 1600; what = Enter 0 1 1 }; trains = [] } ∷
    record { entry = record { at = 1200; what = Enter 0 1 0 }; trains = [] } ∷
    record { entry = record { at = 1080; what = Admit 0 1 Appended }; trains = [] } ∷
    record { entry = record { at = 1080; what = Ready 0 1 }; trains = [] } ∷
    []

-- the history without one line
abbrev pub dropped : Front
dropped =
    record { entry = record { at = 2456; what = End }; trains = [] } ∷
    record { entry = record { at = 2456; what = Free 2 0 }; trains = [] } ∷
    record { entry = record { at = 2400; what = Arrive 0 1 }; trains = [] } ∷
    record { entry = record { at = 2056; what = Free 1 0 }; trains = [] } ∷
    record { entry = record { at = 2000; what = Enter 0 1 2 }; trains = [] } ∷
    record { entry = record { at = 1656; what = Free 0 0 }; trains = [] } ∷
    record { entry = record { at = 1600; what = Enter 0 1 1 }; trains = [] } ∷
    record { entry = record { at = 1200; what = Enter 0 1 0 }; trains = [] } ∷
    record { entry = record { at = 1080; what = Admit 0 1 Appended }; trains = [] } ∷
    record { entry = record { at = 1080; what = Ready 0 1 }; trains = [] } ∷
    []

-- the history with one line twice
abbrev pub doubled : Front
doubled =
    record { entry = record { at = 2456; what = End }; trains = [] } ∷
    record { entry = record { at = 2456; what = Free 2 0 }; trains = [] } ∷
    record { entry = record { at = 2436; what = Out 0 }; trains = [] } ∷
    record { entry = record { at = 2400; what = Arrive 0 1 }; trains = [] } ∷
    record { entry = record { at = 2056; what = Free 1 0 }; trains = [] } ∷
    record { entry = record { at = 2000; what = Enter 0 1 2 }; trains = [] } ∷
    record { entry = record { at = 1656; what = Free 0 0 }; trains = [] } ∷
    record { entry = record { at = 1600; what = Enter 0 1 1 }; trains = [] } ∷
    record { entry = record { at = 1200; what = Enter 0 1 0 }; trains = [] } ∷
    record { entry = record { at = 1200; what = Enter 0 1 0 }; trains = [] } ∷
    record { entry = record { at = 1080; what = Admit 0 1 Appended }; trains = [] } ∷
    record { entry = record { at = 1080; what = Ready 0 1 }; trains = [] } ∷
    []
