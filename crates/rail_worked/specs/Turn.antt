-- A train that turns waits until its own tail has cleared the points.
use Rattle.std.specs.Prelude.{ℕ, codes, List, [], ◌∷◌, Some, None}
use Rattle.rail_base.specs.declared.orders.PolicyKind.TheVariants as kind
use Rattle.rail_base.specs.declared.history.What.TheVariants.{Free, Arrive, Enter, Out, Ready, Admit, Hold, End}
use Rattle.rail_base.specs.declared.history.Note.TheVariants.{Pulled, Appended}
use Rattle.rail_base.specs.declared.history.Cause.TheVariants.{Blocked}
use Rattle.rail_rules.specs.Plant.{Plant}
use Rattle.rail_rules.specs.Orders.{Input}
use Rattle.rail_rules.specs.Fronts.{Front}
use Rattle.rail_rules.specs.RunHistories.{Seat}
use Rattle.rail_worked.specs.Lines.{lines}

-- the plant
abbrev pub plant : Plant
plant = record {
  tables = record {
    sections = record { name = 87 ∷ []; length = 1000; speed = 90 } ∷ record { name = 80 ∷ 87 ∷ []; length = 50; speed = 90 } ∷ record { name = 76 ∷ 49 ∷ []; length = 1000; speed = 90 } ∷ record { name = 76 ∷ 50 ∷ []; length = 1000; speed = 90 } ∷ record { name = 80 ∷ 69 ∷ []; length = 50; speed = 90 } ∷ record { name = 69 ∷ []; length = 1000; speed = 90 } ∷ [];
    release = 20;
    overlap_time = 0;
    depth = 1;
    trains = record { name = 65 ∷ []; kind = record { name = 81 ∷ []; length = 1000; speed = 90; start = 100; stop = 0 }; entry = 1200; priority = 0; moves = record { sections = 0 ∷ 1 ∷ 2 ∷ []; overlap = []; setting = 10; watching = 10; approach = 100; turn = Some (record { step = 3; time = 0 }) } ∷ record { sections = 1 ∷ 0 ∷ []; overlap = []; setting = 10; watching = 10; approach = 100; turn = None } ∷ [] } ∷ [];
  };
  calls = [];
}

-- the boxes of the deck
abbrev pub seats : List Seat
seats = record { name = 112 ∷ 114 ∷ 105 ∷ 111 ∷ 114 ∷ 105 ∷ 116 ∷ 121 ∷ []; kind = kind.Priority; mark = 0 } ∷ record { name = 116 ∷ 105 ∷ 109 ∷ 101 ∷ 116 ∷ 97 ∷ 98 ∷ 108 ∷ 101 ∷ []; kind = kind.Timetable; mark = 0 } ∷ record { name = 102 ∷ 99 ∷ 102 ∷ 115 ∷ []; kind = kind.Fcfs; mark = 0 } ∷ record { name = 114 ∷ 111 ∷ 116 ∷ 97 ∷ 116 ∷ 105 ∷ 110 ∷ 103 ∷ []; kind = kind.Rotating; mark = 0 } ∷ []

-- the input
abbrev pub input : Input
input = record { plant = plant; commands = []; deck = (112 ∷ 114 ∷ 105 ∷ 111 ∷ 114 ∷ 105 ∷ 116 ∷ 121 ∷ []) ∷ (116 ∷ 105 ∷ 109 ∷ 101 ∷ 116 ∷ 97 ∷ 98 ∷ 108 ∷ 101 ∷ []) ∷ (102 ∷ 99 ∷ 102 ∷ 115 ∷ []) ∷ (114 ∷ 111 ∷ 116 ∷ 97 ∷ 116 ∷ 105 ∷ 110 ∷ 103 ∷ []) ∷ []; force = 2 }

-- the printed history, its lines the newest first
abbrev pub front : Front
front =
    record { entry = record { at = 3000; what = End }; trains = [] } ∷
    record { entry = record { at = 3000; what = Free 0 0 }; trains = [] } ∷
    record { entry = record { at = 2980; what = Out 0 }; trains = [] } ∷
    record { entry = record { at = 2600; what = Free 1 0 }; trains = [] } ∷
    record { entry = record { at = 2580; what = Arrive 0 2 }; trains = [] } ∷
    record { entry = record { at = 2580; what = Free 2 0 }; trains = [] } ∷
    record { entry = record { at = 2180; what = Enter 0 2 0 }; trains = [] } ∷
    record { entry = record { at = 2060; what = Enter 0 2 1 }; trains = [] } ∷
    record { entry = record { at = 2040; what = Admit 0 2 Pulled }; trains = [] } ∷
    record { entry = record { at = 2040; what = Free 1 0 }; trains = [] } ∷
    record { entry = record { at = 2020; what = Arrive 0 1 }; trains = [] } ∷
    record { entry = record { at = 2020; what = Free 0 0 }; trains = [] } ∷
    record { entry = record { at = 2000; what = Hold 0 2 (Blocked 1 0) }; trains = [] } ∷
    record { entry = record { at = 2000; what = Ready 0 2 }; trains = [] } ∷
    record { entry = record { at = 1620; what = Enter 0 1 2 }; trains = [] } ∷
    record { entry = record { at = 1600; what = Enter 0 1 1 }; trains = [] } ∷
    record { entry = record { at = 1200; what = Enter 0 1 0 }; trains = [] } ∷
    record { entry = record { at = 1080; what = Admit 0 1 Appended }; trains = [] } ∷
    record { entry = record { at = 1080; what = Ready 0 1 }; trains = [] } ∷
    []

-- its text
abbrev pub printed : List ℕ
printed = lines (codes "00:01:48.0 ready A 1" ∷ codes "00:01:48.0 admit A 1 appended" ∷ codes "00:02:00.0 enter A 1 W" ∷ codes "00:02:40.0 enter A 1 PW" ∷ codes "00:02:42.0 enter A 1 L1" ∷ codes "00:03:20.0 ready A 2" ∷ codes "00:03:20.0 hold A 2 blocked PW A" ∷ codes "00:03:22.0 free W A" ∷ codes "00:03:22.0 arrive A 1" ∷ codes "00:03:24.0 free PW A" ∷ codes "00:03:24.0 admit A 2 pulled" ∷ codes "00:03:26.0 enter A 2 PW" ∷ codes "00:03:38.0 enter A 2 W" ∷ codes "00:04:18.0 free L1 A" ∷ codes "00:04:18.0 arrive A 2" ∷ codes "00:04:20.0 free PW A" ∷ codes "00:04:58.0 out A" ∷ codes "00:05:00.0 free W A" ∷ codes "00:05:00.0 end" ∷ [])

-- the history with the time of one line a tenth later
abbrev pub changed : Front
changed =
    record { entry = record { at = 3000; what = End }; trains = [] } ∷
    record { entry = record { at = 3000; what = Free 0 0 }; trains = [] } ∷
    record { entry = record { at = 2980; what = Out 0 }; trains = [] } ∷
    record { entry = record { at = 2600; what = Free 1 0 }; trains = [] } ∷
    record { entry = record { at = 2580; what = Arrive 0 2 }; trains = [] } ∷
    record { entry = record { at = 2581; what = Free 2 0 }; trains = [] } ∷
    record { entry = record { at = 2180; what = Enter 0 2 0 }; trains = [] } ∷
    record { entry = record { at = 2060; what = Enter 0 2 1 }; trains = [] } ∷
    record { entry = record { at = 2040; what = Admit 0 2 Pulled }; trains = [] } ∷
    record { entry = record { at = 2040; what = Free 1 0 }; trains = [] } ∷
    record { entry = record { at = 2020; what = Arrive 0 1 }; trains = [] } ∷
    record { entry = record { at = 2020; what = Free 0 0 }; trains = [] } ∷
    record { entry = record { at = 2000; what = Hold 0 2 (Blocked 1 0) }; trains = [] } ∷
    record { entry = record { at = 2000; what = Ready 0 2 }; trains = [] } ∷
    record { entry = record { at = 1620; what = Enter 0 1 2 }; trains = [] } ∷
    record { entry = record { at = 1600; what = Enter 0 1 1 }; trains = [] } ∷
    record { entry = record { at = 1200; what = Enter 0 1 0 }; trains = [] } ∷
    record { entry = record { at = 1080; what = Admit 0 1 Appended }; trains = [] } ∷
    record { entry = record { at = 1080; what = Ready 0 1 }; trains = [] } ∷
    []

-- the history without one line
abbrev pub dropped : Front
dropped =
    record { entry = record { at = 3000; what = End }; trains = [] } ∷
    record { entry = record { at = 3000; what = Free 0 0 }; trains = [] } ∷
    record { entry = record { at = 2980; what = Out 0 }; trains = [] } ∷
    record { entry = record { at = 2600; what = Free 1 0 }; trains = [] } ∷
    record { entry = record { at = 2580; what = Arrive 0 2 }; trains = [] } ∷
    record { entry = record { at = 2580; what = Free 2 0 }; trains = [] } ∷
    record { entry = record { at = 2180; what = Enter 0 2 0 }; trains = [] } ∷
    record { entry = record { at = 2060; what = Enter 0 2 1 }; trains = [] } ∷
    record { entry = record { at = 2040; what = Admit 0 2 Pulled }; trains = [] } ∷
    record { entry = record { at = 2040; what = Free 1 0 }; trains = [] } ∷
    record { entry = record { at = 2020; what = Arrive 0 1 }; trains = [] } ∷
    record { entry = record { at = 2020; what = Free 0 0 }; trains = [] } ∷
    record { entry = record { at = 2000; what = Ready 0 2 }; trains = [] } ∷
    record { entry = record { at = 1620; what = Enter 0 1 2 }; trains = [] } ∷
    record { entry = record { at = 1600; what = Enter 0 1 1 }; trains = [] } ∷
    record { entry = record { at = 1200; what = Enter 0 1 0 }; trains = [] } ∷
    record { entry = record { at = 1080; what = Admit 0 1 Appended }; trains = [] } ∷
    record { entry = record { at = 1080; what = Ready 0 1 }; trains = [] } ∷
    []

-- the history with one line twice
abbrev pub doubled : Front
doubled =
    record { entry = record { at = 3000; what = End }; trains = [] } ∷
    record { entry = record { at = 3000; what = Free 0 0 }; trains = [] } ∷
    record { entry = record { at = 2980; what = Out 0 }; trains = [] } ∷
    record { entry = record { at = 2600; what = Free 1 0 }; trains = [] } ∷
    record { entry = record { at = 2580; what = Arrive 0 2 }; trains = [] } ∷
    record { entry = record { at = 2580; what = Free 2 0 }; trains = [] } ∷
    record { entry = record { at = 2180; what = Enter 0 2 0 }; trains = [] } ∷
    record { entry = record { at = 2060; what = Enter 0 2 1 }; trains = [] } ∷
    record { entry = record { at = 2040; what = Admit 0 2 Pulled }; trains = [] } ∷
    record { entry = record { at = 2040; what = Free 1 0 }; trains = [] } ∷
    record { entry = record { at = 2020; what = Arrive 0 1 }; trains = [] } ∷
    record { entry = record { at = 2020; what = Free 0 0 }; trains = [] } ∷
    record { entry = record { at = 2020; what = Free 0 0 }; trains = [] } ∷
    record { entry = record { at = 2000; what = Hold 0 2 (Blocked 1 0) }; trains = [] } ∷
    record { entry = record { at = 2000; what = Ready 0 2 }; trains = [] } ∷
    record { entry = record { at = 1620; what = Enter 0 1 2 }; trains = [] } ∷
    record { entry = record { at = 1600; what = Enter 0 1 1 }; trains = [] } ∷
    record { entry = record { at = 1200; what = Enter 0 1 0 }; trains = [] } ∷
    record { entry = record { at = 1080; what = Admit 0 1 Appended }; trains = [] } ∷
    record { entry = record { at = 1080; what = Ready 0 1 }; trains = [] } ∷
    []
