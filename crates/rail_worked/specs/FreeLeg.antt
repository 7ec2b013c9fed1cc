-- The plant where a free leg is needed, and the state in which a third train wants to enter.
use Rattle.std.specs.Prelude.{ℕ, List, [], ◌∷◌, None}
use Rattle.rail_base.specs.declared.orders.PolicyKind.TheVariants as kind
use Rattle.rail_rules.specs.Plant.{Plant}
use Rattle.rail_rules.specs.Orders.{Input}
use Rattle.rail_rules.specs.RunHistories.{Seat}

-- the plant
abbrev pub plant : Plant
plant = record {
  tables = record {
    sections = record { name = 87 ∷ []; length = 1000; speed = 90 } ∷ record { name = 80 ∷ 87 ∷ []; length = 50; speed = 90 } ∷ record { name = 76 ∷ 49 ∷ []; length = 1000; speed = 90 } ∷ record { name = 76 ∷ 50 ∷ []; length = 1000; speed = 90 } ∷ record { name = 80 ∷ 69 ∷ []; length = 50; speed = 90 } ∷ record { name = 67 ∷ []; length = 1000; speed = 90 } ∷ record { name = 81 ∷ 87 ∷ []; length = 50; speed = 90 } ∷ record { name = 78 ∷ 49 ∷ []; length = 1000; speed = 90 } ∷ record { name = 78 ∷ 50 ∷ []; length = 1000; speed = 90 } ∷ record { name = 81 ∷ 69 ∷ []; length = 50; speed = 90 } ∷ record { name = 88 ∷ []; length = 1000; speed = 90 } ∷ [];
    release = 20;
    overlap_time = 0;
    depth = 1;
    trains = record { name = 65 ∷ 49 ∷ []; kind = record { name = 82 ∷ []; length = 90; speed = 90; start = 100; stop = 50 }; entry = 1200; priority = 0; moves = record { sections = 0 ∷ 1 ∷ 2 ∷ []; overlap = []; setting = 10; watching = 10; approach = 100; turn = None } ∷ record { sections = 4 ∷ 5 ∷ []; overlap = []; setting = 10; watching = 10; approach = 100; turn = None } ∷ record { sections = 6 ∷ 7 ∷ []; overlap = []; setting = 10; watching = 10; approach = 100; turn = None } ∷ record { sections = 9 ∷ 10 ∷ []; overlap = []; setting = 10; watching = 10; approach = 100; turn = None } ∷ [] } ∷ record { name = 65 ∷ 50 ∷ []; kind = record { name = 82 ∷ []; length = 90; speed = 90; start = 100; stop = 50 }; entry = 2196; priority = 0; moves = record { sections = 0 ∷ 1 ∷ 2 ∷ []; overlap = []; setting = 10; watching = 10; approach = 100; turn = None } ∷ record { sections = 4 ∷ 5 ∷ []; overlap = []; setting = 10; watching = 10; approach = 100; turn = None } ∷ record { sections = 6 ∷ 7 ∷ []; overlap = []; setting = 10; watching = 10; approach = 100; turn = None } ∷ record { sections = 9 ∷ 10 ∷ []; overlap = []; setting = 10; watching = 10; approach = 100; turn = None } ∷ [] } ∷ record { name = 66 ∷ []; kind = record { name = 82 ∷ []; length = 90; speed = 90; start = 100; stop = 50 }; entry = 2320; priority = 0; moves = record { sections = 10 ∷ []; overlap = []; setting = 10; watching = 10; approach = 100; turn = None } ∷ record { sections = 9 ∷ 8 ∷ 6 ∷ 5 ∷ 4 ∷ 3 ∷ []; overlap = []; setting = 10; watching = 10; approach = 100; turn = None } ∷ record { sections = 1 ∷ 0 ∷ []; overlap = []; setting = 10; watching = 10; approach = 100; turn = None } ∷ [] } ∷ [];
  };
  calls = [];
}

-- the boxes of the deck
abbrev pub seats : List Seat
seats = record { name = 112 ∷ 114 ∷ 105 ∷ 111 ∷ 114 ∷ 105 ∷ 116 ∷ 121 ∷ []; kind = kind.Priority; mark = 0 } ∷ record { name = 116 ∷ 105 ∷ 109 ∷ 101 ∷ 116 ∷ 97 ∷ 98 ∷ 108 ∷ 101 ∷ []; kind = kind.Timetable; mark = 0 } ∷ record { name = 102 ∷ 99 ∷ 102 ∷ 115 ∷ []; kind = kind.Fcfs; mark = 0 } ∷ record { name = 114 ∷ 111 ∷ 116 ∷ 97 ∷ 116 ∷ 105 ∷ 110 ∷ 103 ∷ []; kind = kind.Rotating; mark = 0 } ∷ []

-- the input
abbrev pub input : Input
input = record { plant = plant; commands = []; deck = (112 ∷ 114 ∷ 105 ∷ 111 ∷ 114 ∷ 105 ∷ 116 ∷ 121 ∷ []) ∷ (116 ∷ 105 ∷ 109 ∷ 101 ∷ 116 ∷ 97 ∷ 98 ∷ 108 ∷ 101 ∷ []) ∷ (102 ∷ 99 ∷ 102 ∷ 115 ∷ []) ∷ (114 ∷ 111 ∷ 116 ∷ 97 ∷ 116 ∷ 105 ∷ 110 ∷ 103 ∷ []) ∷ []; force = 2 }

-- the first train has made two moves, the second and the third one
abbrev pub state : List ℕ
state = 2 ∷ 1 ∷ 1 ∷ []
