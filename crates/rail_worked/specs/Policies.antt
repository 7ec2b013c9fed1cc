-- A policy is exchanged, and one that is in force is not retired.
use Rattle.std.specs.Prelude.{ℕ, codes, List, [], ◌∷◌, None}
use Rattle.rail_base.specs.declared.orders.Order.TheVariants as order
use Rattle.rail_base.specs.declared.orders.PolicyKind.TheVariants as kind
use Rattle.rail_base.specs.declared.history.What.TheVariants.{Ready, Told, Untold, Admit, Hold}
use Rattle.rail_base.specs.declared.history.Note.TheVariants.{Appended}
use Rattle.rail_base.specs.declared.history.Cause.TheVariants.{Blocked}
use Rattle.rail_rules.specs.Plant.{Plant}
use Rattle.rail_rules.specs.Orders.{Input}
use Rattle.rail_rules.specs.Fronts.{Front}
use Rattle.rail_rules.specs.RunHistories.{Seat}
use Rattle.rail_worked.specs.Lines.{lines}

-- the plant
abbrev pub plant : Plant
plant = record {
  tables = record {
    sections = record { name = 87 ∷ []; length = 1000; speed = 90 } ∷ record { name = 80 ∷ 87 ∷ []; length = 50; speed = 90 } ∷ record { name = 76 ∷ 49 ∷ []; length = 1000; speed = 90 } ∷ record { name = 76 ∷ 50 ∷ []; length = 1000; speed = 90 } ∷ record { name = 80 ∷ 69 ∷ []; length = 50; speed = 90 } ∷ record { name = 69 ∷ []; length = 1000; speed = 90 } ∷ [];
    release = 20;
    overlap_time = 0;
    depth = 1;
    trains = record { name = 65 ∷ []; kind = record { name = 82 ∷ []; length = 90; speed = 90; start = 100; stop = 50 }; entry = 1200; priority = 5; moves = record { sections = 0 ∷ 1 ∷ 2 ∷ []; overlap = []; setting = 10; watching = 10; approach = 100; turn = None } ∷ record { sections = 4 ∷ 5 ∷ []; overlap = []; setting = 10; watching = 10; approach = 100; turn = None } ∷ [] } ∷ record { name = 66 ∷ []; kind = record { name = 82 ∷ []; length = 90; speed = 90; start = 100; stop = 50 }; entry = 1200; priority = 1; moves = record { sections = 0 ∷ 1 ∷ 3 ∷ []; overlap = []; setting = 10; watching = 10; approach = 100; turn = None } ∷ record { sections = 4 ∷ 5 ∷ []; overlap = []; setting = 10; watching = 10; approach = 100; turn = None } ∷ [] } ∷ [];
  };
  calls = [];
}

-- the boxes of the deck
abbrev pub seats : List Seat
seats = record { name = 112 ∷ 114 ∷ 105 ∷ 111 ∷ 114 ∷ 105 ∷ 116 ∷ 121 ∷ []; kind = kind.Priority; mark = 0 } ∷ record { name = 116 ∷ 105 ∷ 109 ∷ 101 ∷ 116 ∷ 97 ∷ 98 ∷ 108 ∷ 101 ∷ []; kind = kind.Timetable; mark = 0 } ∷ record { name = 102 ∷ 99 ∷ 102 ∷ 115 ∷ []; kind = kind.Fcfs; mark = 0 } ∷ record { name = 114 ∷ 111 ∷ 116 ∷ 97 ∷ 116 ∷ 105 ∷ 110 ∷ 103 ∷ []; kind = kind.Rotating; mark = 0 } ∷ []

-- the input
abbrev pub input : Input
input = record { plant = plant; commands = record { at = 600; what = (order.Policy (112 ∷ 114 ∷ 105 ∷ 111 ∷ 114 ∷ 105 ∷ 116 ∷ 121 ∷ [])) } ∷ record { at = 600; what = (order.Retire (112 ∷ 114 ∷ 105 ∷ 111 ∷ 114 ∷ 105 ∷ 116 ∷ 121 ∷ [])) } ∷ record { at = 600; what = (order.Retire (102 ∷ 99 ∷ 102 ∷ 115 ∷ [])) } ∷ []; deck = (112 ∷ 114 ∷ 105 ∷ 111 ∷ 114 ∷ 105 ∷ 116 ∷ 121 ∷ []) ∷ (116 ∷ 105 ∷ 109 ∷ 101 ∷ 116 ∷ 97 ∷ 98 ∷ 108 ∷ 101 ∷ []) ∷ (102 ∷ 99 ∷ 102 ∷ 115 ∷ []) ∷ (114 ∷ 111 ∷ 116 ∷ 97 ∷ 116 ∷ 105 ∷ 110 ∷ 103 ∷ []) ∷ []; force = 2 }

-- the printed history, its lines the newest first
abbrev pub front : Front
front =
    record { entry = record { at = 1080; what = Hold 0 1 (Blocked 0 1) }; trains = [] } ∷
    record { entry = record { at = 1080; what = Admit 1 1 Appended }; trains = [] } ∷
    record { entry = record { at = 1080; what = Ready 1 1 }; trains = [] } ∷
    record { entry = record { at = 1080; what = Ready 0 1 }; trains = [] } ∷
    record { entry = record { at = 600; what = Told 3 }; trains = [] } ∷
    record { entry = record { at = 600; what = Untold 2 }; trains = [] } ∷
    record { entry = record { at = 600; what = Told 1 }; trains = [] } ∷
    []

-- its text
abbrev pub printed : List ℕ
printed = lines (codes "00:01:00.0 told 1" ∷ codes "00:01:00.0 untold 2" ∷ codes "00:01:00.0 told 3" ∷ codes "00:01:48.0 ready A 1" ∷ codes "00:01:48.0 ready B 1" ∷ codes "00:01:48.0 admit B 1 appended" ∷ codes "00:01:48.0 hold A 1 blocked W B" ∷ [])
