-- A train is held where its admission would lead into a deadlock.
use Rattle.std.specs.Prelude.{ℕ, codes, List, [], ◌∷◌, None}
use Rattle.rail_base.specs.declared.orders.PolicyKind.TheVariants as kind
use Rattle.rail_base.specs.declared.history.What.TheVariants.{Free, Arrive, Enter, Out, Ready, Admit, Hold, End}
use Rattle.rail_base.specs.declared.history.Note.TheVariants.{Pulled, Appended}
use Rattle.rail_base.specs.declared.history.Cause.TheVariants.{Blocked, NoList}
use Rattle.rail_rules.specs.Plant.{Plant}
use Rattle.rail_rules.specs.Orders.{Input}
use Rattle.rail_rules.specs.Fronts.{Front}
use Rattle.rail_rules.specs.RunHistories.{Seat}
use Rattle.rail_worked.specs.Lines.{lines}

-- the plant
abbrev pub plant : Plant
plant = record {
  tables = record {
    sections = record { name = 87 ∷ []; length = 1000; speed = 90 } ∷ record { name = 80 ∷ 87 ∷ []; length = 50; speed = 90 } ∷ record { name = 76 ∷ 49 ∷ []; length = 1000; speed = 90 } ∷ record { name = 76 ∷ 50 ∷ []; length = 1000; speed = 90 } ∷ record { name = 80 ∷ 69 ∷ []; length = 50; speed = 90 } ∷ record { name = 69 ∷ []; length = 1000; speed = 90 } ∷ [];
    release = 20;
    overlap_time = 0;
    depth = 1;
    trains = record { name = 65 ∷ []; kind = record { name = 82 ∷ []; length = 90; speed = 90; start = 100; stop = 50 }; entry = 1200; priority = 0; moves = record { sections = 0 ∷ []; overlap = []; setting = 10; watching = 10; approach = 100; turn = None } ∷ record { sections = 1 ∷ 2 ∷ []; overlap = []; setting = 10; watching = 10; approach = 100; turn = None } ∷ record { sections = 4 ∷ 5 ∷ []; overlap = []; setting = 10; watching = 10; approach = 100; turn = None } ∷ [] } ∷ record { name = 66 ∷ []; kind = record { name = 82 ∷ []; length = 90; speed = 90; start = 100; stop = 50 }; entry = 1200; priority = 0; moves = record { sections = 5 ∷ 4 ∷ 2 ∷ []; overlap = []; setting = 10; watching = 10; approach = 100; turn = None } ∷ record { sections = 1 ∷ 0 ∷ []; overlap = []; setting = 10; watching = 10; approach = 100; turn = None } ∷ [] } ∷ [];
  };
  calls = [];
}

-- the boxes of the deck
abbrev pub seats : List Seat
seats = record { name = 112 ∷ 114 ∷ 105 ∷ 111 ∷ 114 ∷ 105 ∷ 116 ∷ 121 ∷ []; kind = kind.Priority; mark = 0 } ∷ record { name = 116 ∷ 105 ∷ 109 ∷ 101 ∷ 116 ∷ 97 ∷ 98 ∷ 108 ∷ 101 ∷ []; kind = kind.Timetable; mark = 0 } ∷ record { name = 102 ∷ 99 ∷ 102 ∷ 115 ∷ []; kind = kind.Fcfs; mark = 0 } ∷ record { name = 114 ∷ 111 ∷ 116 ∷ 97 ∷ 116 ∷ 105 ∷ 110 ∷ 103 ∷ []; kind = kind.Rotating; mark = 0 } ∷ []

-- the input
abbrev pub input : Input
input = record { plant = plant; commands = []; deck = (112 ∷ 114 ∷ 105 ∷ 111 ∷ 114 ∷ 105 ∷ 116 ∷ 121 ∷ []) ∷ (116 ∷ 105 ∷ 109 ∷ 101 ∷ 116 ∷ 97 ∷ 98 ∷ 108 ∷ 101 ∷ []) ∷ (102 ∷ 99 ∷ 102 ∷ 115 ∷ []) ∷ (114 ∷ 111 ∷ 116 ∷ 97 ∷ 116 ∷ 105 ∷ 110 ∷ 103 ∷ []) ∷ []; force = 2 }

-- the printed history, its lines the newest first
abbrev pub front : Front
front =
    record { entry = record { at = 3912; what = End }; trains = [] } ∷
    record { entry = record { at = 3912; what = Free 0 1 }; trains = [] } ∷
    record { entry = record { at = 3892; what = Out 1 }; trains = [] } ∷
    record { entry = record { at = 3856; what = Arrive 1 2 }; trains = [] } ∷
    record { entry = record { at = 3512; what = Free 1 1 }; trains = [] } ∷
    record { entry = record { at = 3492; what = Free 2 1 }; trains = [] } ∷
    record { entry = record { at = 3456; what = Enter 1 2 0 }; trains = [] } ∷
    record { entry = record { at = 3436; what = Enter 1 2 1 }; trains = [] } ∷
    record { entry = record { at = 3436; what = Arrive 1 1 }; trains = [] } ∷
    record { entry = record { at = 3316; what = Admit 1 2 Pulled }; trains = [] } ∷
    record { entry = record { at = 3316; what = Ready 1 2 }; trains = [] } ∷
    record { entry = record { at = 3092; what = Free 4 1 }; trains = [] } ∷
    record { entry = record { at = 3072; what = Free 5 1 }; trains = [] } ∷
    record { entry = record { at = 3036; what = Enter 1 1 2 }; trains = [] } ∷
    record { entry = record { at = 3016; what = Enter 1 1 4 }; trains = [] } ∷
    record { entry = record { at = 2516; what = Enter 1 1 5 }; trains = [] } ∷
    record { entry = record { at = 2496; what = Admit 1 1 Appended }; trains = [] } ∷
    record { entry = record { at = 2496; what = Free 5 0 }; trains = [] } ∷
    record { entry = record { at = 2476; what = Out 0 }; trains = [] } ∷
    record { entry = record { at = 2440; what = Arrive 0 3 }; trains = [] } ∷
    record { entry = record { at = 2096; what = Free 4 0 }; trains = [] } ∷
    record { entry = record { at = 2076; what = Free 2 0 }; trains = [] } ∷
    record { entry = record { at = 2040; what = Enter 0 3 5 }; trains = [] } ∷
    record { entry = record { at = 2020; what = Enter 0 3 4 }; trains = [] } ∷
    record { entry = record { at = 2020; what = Arrive 0 2 }; trains = [] } ∷
    record { entry = record { at = 1900; what = Hold 1 1 (Blocked 5 0) }; trains = [] } ∷
    record { entry = record { at = 1900; what = Admit 0 3 Pulled }; trains = [] } ∷
    record { entry = record { at = 1900; what = Ready 0 3 }; trains = [] } ∷
    record { entry = record { at = 1676; what = Free 1 0 }; trains = [] } ∷
    record { entry = record { at = 1656; what = Free 0 0 }; trains = [] } ∷
    record { entry = record { at = 1620; what = Enter 0 2 2 }; trains = [] } ∷
    record { entry = record { at = 1600; what = Enter 0 2 1 }; trains = [] } ∷
    record { entry = record { at = 1600; what = Arrive 0 1 }; trains = [] } ∷
    record { entry = record { at = 1480; what = Hold 1 1 (Blocked 2 0) }; trains = [] } ∷
    record { entry = record { at = 1480; what = Admit 0 2 Pulled }; trains = [] } ∷
    record { entry = record { at = 1480; what = Ready 0 2 }; trains = [] } ∷
    record { entry = record { at = 1200; what = Enter 0 1 0 }; trains = [] } ∷
    record { entry = record { at = 1080; what = Hold 1 1 NoList }; trains = [] } ∷
    record { entry = record { at = 1080; what = Admit 0 1 Appended }; trains = [] } ∷
    record { entry = record { at = 1080; what = Ready 1 1 }; trains = [] } ∷
    record { entry = record { at = 1080; what = Ready 0 1 }; trains = [] } ∷
    []

-- its text
abbrev pub printed : List ℕ
printed = lines (codes "00:01:48.0 ready A 1" ∷ codes "00:01:48.0 ready B 1" ∷ codes "00:01:48.0 admit A 1 appended" ∷ codes "00:01:48.0 hold B 1 nolist" ∷ codes "00:02:00.0 enter A 1 W" ∷ codes "00:02:28.0 ready A 2" ∷ codes "00:02:28.0 admit A 2 pulled" ∷ codes "00:02:28.0 hold B 1 blocked L1 A" ∷ codes "00:02:40.0 arrive A 1" ∷ codes "00:02:40.0 enter A 2 PW" ∷ codes "00:02:42.0 enter A 2 L1" ∷ codes "00:02:45.6 free W A" ∷ codes "00:02:47.6 free PW A" ∷ codes "00:03:10.0 ready A 3" ∷ codes "00:03:10.0 admit A 3 pulled" ∷ codes "00:03:10.0 hold B 1 blocked E A" ∷ codes "00:03:22.0 arrive A 2" ∷ codes "00:03:22.0 enter A 3 PE" ∷ codes "00:03:24.0 enter A 3 E" ∷ codes "00:03:27.6 free L1 A" ∷ codes "00:03:29.6 free PE A" ∷ codes "00:04:04.0 arrive A 3" ∷ codes "00:04:07.6 out A" ∷ codes "00:04:09.6 free E A" ∷ codes "00:04:09.6 admit B 1 appended" ∷ codes "00:04:11.6 enter B 1 E" ∷ codes "00:05:01.6 enter B 1 PE" ∷ codes "00:05:03.6 enter B 1 L1" ∷ codes "00:05:07.2 free E B" ∷ codes "00:05:09.2 free PE B" ∷ codes "00:05:31.6 ready B 2" ∷ codes "00:05:31.6 admit B 2 pulled" ∷ codes "00:05:43.6 arrive B 1" ∷ codes "00:05:43.6 enter B 2 PW" ∷ codes "00:05:45.6 enter B 2 W" ∷ codes "00:05:49.2 free L1 B" ∷ codes "00:05:51.2 free PW B" ∷ codes "00:06:25.6 arrive B 2" ∷ codes "00:06:29.2 out B" ∷ codes "00:06:31.2 free W B" ∷ codes "00:06:31.2 end" ∷ [])

-- the history with the time of one line a tenth later
abbrev pub changed : Front
changed =
    record { entry = record { at = 3912; what = End }; trains = [] } ∷
    record { entry = record { at = 3912; what = Free 0 1 }; trains = [] } ∷
    record { entry = record { at = 3892; what = Out 1 }; trains = [] } ∷
    record { entry = record { at = 3856; what = Arrive 1 2 }; trains = [] } ∷
    record { entry = record { at = 3512; what = Free 1 1 }; trains = [] } ∷
    record { entry = record { at = 3492; what = Free 2 1 }; trains = [] } ∷
    record { entry = record { at = 3456; what = Enter 1 2 0 }; trains = [] } ∷
    record { entry = record { at = 3436; what = Enter 1 2 1 }; trains = [] } ∷
    record { entry = record { at = 3436; what = Arrive 1 1 }; trains = [] } ∷
    record { entry = record { at = 3316; what = Admit 1 2 Pulled }; trains = [] } ∷
    record { entry = record { at = 3316; what = Ready 1 2 }; trains = [] } ∷
    record { entry = record { at = 3093; what = Free 4 1 }; trains = [] } ∷
    record { entry = record { at = 3072; what = Free 5 1 }; trains = [] } ∷
    record { entry = record { at = 3036; what = Enter 1 1 2 }; trains = [] } ∷
    record { entry = record { at = 3016; what = Enter 1 1 4 }; trains = [] } ∷
    record { entry = record { at = 2516; what = Enter 1 1 5 }; trains = [] } ∷
    record { entry = record { at = 2496; what = Admit 1 1 Appended }; trains = [] } ∷
    record { entry = record { at = 2496; what = Free 5 0 }; trains = [] } ∷
    record { entry = record { at = 2476; what = Out 0 }; trains = [] } ∷
    record { entry = record { at = 2440; what = Arrive 0 3 }; trains = [] } ∷
    record { entry = record { at = 2096; what = Free 4 0 }; trains = [] } ∷
    record { entry = record { at = 2076; what = Free 2 0 }; trains = [] } ∷
    record { entry = record { at = 2040; what = Enter 0 3 5 }; trains = [] } ∷
    record { entry = record { at = 2020; what = Enter 0 3 4 }; trains = [] } ∷
    record { entry = record { at = 2020; what = Arrive 0 2 }; trains = [] } ∷
    record { entry = record { at = 1900; what = Hold 1 1 (Blocked 5 0) }; trains = [] } ∷
    record { entry = record { at = 1900; what = Admit 0 3 Pulled }; trains = [] } ∷
    record { entry = record { at = 1900; what = Ready 0 3 }; trains = [] } ∷
    record { entry = record { at = 1676; what = Free 1 0 }; trains = [] } ∷
    record { entry = record { at = 1656; what = Free 0 0 }; trains = [] } ∷
    record { entry = record { at = 1620; what = Enter 0 2 2 }; trains = [] } ∷
    record { entry = record { at = 1600; what = Enter 0 2 1 }; trains = [] } ∷
    record { entry = record { at = 1600; what = Arrive 0 1 }; trains = [] } ∷
    record { entry = record { at = 1480; what = Hold 1 1 (Blocked 2 0) }; trains = [] } ∷
    record { entry = record { at = 1480; what = Admit 0 2 Pulled }; trains = [] } ∷
    record { entry = record { at = 1480; what = Ready 0 2 }; trains = [] } ∷
    record { entry = record { at = 1200; what = Enter 0 1 0 }; trains = [] } ∷
    record { entry = record { at = 1080; what = Hold 1 1 NoList }; trains = [] } ∷
    record { entry = record { at = 1080; what = Admit 0 1 Appended }; trains = [] } ∷
    record { entry = record { at = 1080; what = Ready 1 1 }; trains = [] } ∷
    record { entry = record { at = 1080; what = Ready 0 1 }; trains = [] } ∷
    []

-- the history without one line
abbrev pub dropped : Front
dropped =
    record { entry = record { at = 3912; what = End }; trains = [] } ∷
    record { entry = record { at = 3912; what = Free 0 1 }; trains = [] } ∷
    record { entry = record { at = 3892; what = Out 1 }; trains = [] } ∷
    record { entry = record { at = 3856; what = Arrive 1 2 }; trains = [] } ∷
    record { entry = record { at = 3512; what = Free 1 1 }; trains = [] } ∷
    record { entry = record { at = 3492; what = Free 2 1 }; trains = [] } ∷
    record { entry = record { at = 3456; what = Enter 1 2 0 }; trains = [] } ∷
    record { entry = record { at = 3436; what = Enter 1 2 1 }; trains = [] } ∷
    record { entry = record { at = 3436; what = Arrive 1 1 }; trains = [] } ∷
    record { entry = record { at = 3316; what = Admit 1 2 Pulled }; trains = [] } ∷
    record { entry = record { at = 3316; what = Ready 1 2 }; trains = [] } ∷
    record { entry = record { at = 3092; what = Free 4 1 }; trains = [] } ∷
    record { entry = record { at = 3072; what = Free 5 1 }; trains = [] } ∷
    record { entry = record { at = 3036; what = Enter 1 1 2 }; trains = [] } ∷
    record { entry = record { at = 3016; what = Enter 1 1 4 }; trains = [] } ∷
    record { entry = record { at = 2516; what = Enter 1 1 5 }; trains = [] } ∷
    record { entry = record { at = 2496; what = Admit 1 1 Appended }; trains = [] } ∷
    record { entry = record { at = 2496; what = Free 5 0 }; trains = [] } ∷
    record { entry = record { at = 2476; what = Out 0 }; trains = [] } ∷
    record { entry = record { at = 2440; what = Arrive 0 3 }; trains = [] } ∷
    record { entry = record { at = 2096; what = Free 4 0 }; trains = [] } ∷
    record { entry = record { at = 2076; what = Free 2 0 }; trains = [] } ∷
    record { entry = record { at = 2040; what = Enter 0 3 5 }; trains = [] } ∷
    record { entry = record { at = 2020; what = Enter 0 3 4 }; trains = [] } ∷
    record { entry = record { at = 2020; what = Arrive 0 2 }; trains = [] } ∷
    record { entry = record { at = 1900; what = Hold 1 1 (Blocked 5 0) }; trains = [] } ∷
    record { entry = record { at = 1900; what = Admit 0 3 Pulled }; trains = [] } ∷
    record { entry = record { at = 1900; what = Ready 0 3 }; trains = [] } ∷
    record { entry = record { at = 1676; what = Free 1 0 }; trains = [] } ∷
    record { entry = record { at = 1656; what = Free 0 0 }; trains = [] } ∷
    record { entry = record { at = 1620; what = Enter 0 2 2 }; trains = [] } ∷
    record { entry = record { at = 1600; what = Enter 0 2 1 }; trains = [] } ∷
    record { entry = record { at = 1600; what = Arrive 0 1 }; trains = [] } ∷
    record { entry = record { at = 1480; what = Hold 1 1 (Blocked 2 0) }; trains = [] } ∷
    record { entry = record { at = 1480; what = Admit 0 2 Pulled }; trains = [] } ∷
    record { entry = record { at = 1480; what = Ready 0 2 }; trains = [] } ∷
    record { entry = record { at = 1200; what = Enter 0 1 0 }; trains = [] } ∷
    record { entry = record { at = 1080; what = Admit 0 1 Appended }; trains = [] } ∷
    record { entry = record { at = 1080; what = Ready 1 1 }; trains = [] } ∷
    record { entry = record { at = 1080; what = Ready 0 1 }; trains = [] } ∷
    []

-- the history with one line twice
abbrev pub doubled : Front
doubled =
    record { entry = record { at = 3912; what = End }; trains = [] } ∷
    record { entry = record { at = 3912; what = Free 0 1 }; trains = [] } ∷
    record { entry = record { at = 3892; what = Out 1 }; trains = [] } ∷
    record { entry = record { at = 3856; what = Arrive 1 2 }; trains = [] } ∷
    record { entry = record { at = 3512; what = Free 1 1 }; trains = [] } ∷
    record { entry = record { at = 3492; what = Free 2 1 }; trains = [] } ∷
    record { entry = record { at = 3456; what = Enter 1 2 0 }; trains = [] } ∷
    record { entry = record { at = 3436; what = Enter 1 2 1 }; trains = [] } ∷
    record { entry = record { at = 3436; what = Arrive 1 1 }; trains = [] } ∷
    record { entry = record { at = 3316; what = Admit 1 2 Pulled }; trains = [] } ∷
    record { entry = record { at = 3316; what = Ready 1 2 }; trains = [] } ∷
    record { entry = record { at = 3092; what = Free 4 1 }; trains = [] } ∷
    record { entry = record { at = 3072; what = Free 5 1 }; trains = [] } ∷
    record { entry = record { at = 3036; what = Enter 1 1 2 }; trains = [] } ∷
    record { entry = record { at = 3016; what = Enter 1 1 4 }; trains = [] } ∷
    record { entry = record { at = 2516; what = Enter 1 1 5 }; trains = [] } ∷
    record { entry = record { at = 2496; what = Admit 1 1 Appended }; trains = [] } ∷
    record { entry = record { at = 2496; what = Free 5 0 }; trains = [] } ∷
    record { entry = record { at = 2476; what = Out 0 }; trains = [] } ∷
    record { entry = record { at = 2440; what = Arrive 0 3 }; trains = [] } ∷
    record { entry = record { at = 2096; what = Free 4 0 }; trains = [] } ∷
    record { entry = record { at = 2076; what = Free 2 0 }; trains = [] } ∷
    record { entry = record { at = 2040; what = Enter 0 3 5 }; trains = [] } ∷
    record { entry = record { at = 2020; what = Enter 0 3 4 }; trains = [] } ∷
    record { entry = record { at = 2020; what = Arrive 0 2 }; trains = [] } ∷
    record { entry = record { at = 1900; what = Hold 1 1 (Blocked 5 0) }; trains = [] } ∷
    record { entry = record { at = 1900; what = Admit 0 3 Pulled }; trains = [] } ∷
    record { entry = record { at = 1900; what = Ready 0 3 }; trains = [] } ∷
    record { entry = record { at = 1676; what = Free 1 0 }; trains = [] } ∷
    record { entry = record { at = 1656; what = Free 0 0 }; trains = [] } ∷
    record { entry = record { at = 1656; what = Free 0 0 }; trains = [] } ∷
    record { entry = record { at = 1620; what = Enter 0 2 2 }; trains = [] } ∷
    record { entry = record { at = 1600; what = Enter 0 2 1 }; trains = [] } ∷
    record { entry = record { at = 1600; what = Arrive 0 1 }; trains = [] } ∷
    record { entry = record { at = 1480; what = Hold 1 1 (Blocked 2 0) }; trains = [] } ∷
    record { entry = record { at = 1480; what = Admit 0 2 Pulled }; trains = [] } ∷
    record { entry = record { at = 1480; what = Ready 0 2 }; trains = [] } ∷
    record { entry = record { at = 1200; what = Enter 0 1 0 }; trains = [] } ∷
    record { entry = record { at = 1080; what = Hold 1 1 NoList }; trains = [] } ∷
    record { entry = record { at = 1080; what = Admit 0 1 Appended }; trains = [] } ∷
    record { entry = record { at = 1080; what = Ready 1 1 }; trains = [] } ∷
    record { entry = record { at = 1080; what = Ready 0 1 }; trains = [] } ∷
    []
