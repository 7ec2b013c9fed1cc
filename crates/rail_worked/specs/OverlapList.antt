-- A list over claims: the overlap of a route bars another train's move.
use Rattle.std.specs.Prelude.{ℕ, List, [], ◌∷◌, None}
use Rattle.rail_rules.specs.Plant.{Plant}

-- the plant
abbrev pub plant : Plant
plant = record {
  tables = record {
    sections = record { name = 87 ∷ []; length = 1000; speed = 90 } ∷ record { name = 80 ∷ 87 ∷ []; length = 50; speed = 90 } ∷ record { name = 76 ∷ 49 ∷ []; length = 1000; speed = 90 } ∷ record { name = 76 ∷ 50 ∷ []; length = 1000; speed = 90 } ∷ record { name = 80 ∷ 69 ∷ []; length = 50; speed = 90 } ∷ record { name = 69 ∷ []; length = 1000; speed = 90 } ∷ [];
    release = 20;
    overlap_time = 0;
    depth = 1;
    trains = record { name = 65 ∷ []; kind = record { name = 82 ∷ []; length = 90; speed = 90; start = 100; stop = 50 }; entry = 1200; priority = 0; moves = record { sections = 0 ∷ []; overlap = []; setting = 10; watching = 10; approach = 100; turn = None } ∷ record { sections = 1 ∷ 2 ∷ []; overlap = 4 ∷ 5 ∷ []; setting = 10; watching = 10; approach = 100; turn = None } ∷ record { sections = 4 ∷ 5 ∷ []; overlap = []; setting = 10; watching = 10; approach = 100; turn = None } ∷ [] } ∷ record { name = 66 ∷ []; kind = record { name = 82 ∷ []; length = 90; speed = 90; start = 100; stop = 50 }; entry = 1200; priority = 0; moves = record { sections = 5 ∷ []; overlap = []; setting = 10; watching = 10; approach = 100; turn = None } ∷ record { sections = 4 ∷ 3 ∷ []; overlap = []; setting = 10; watching = 10; approach = 100; turn = None } ∷ record { sections = 1 ∷ 0 ∷ []; overlap = []; setting = 10; watching = 10; approach = 100; turn = None } ∷ [] } ∷ [];
  };
  calls = [];
}

-- each train has made its first move
abbrev pub state : List ℕ
state = 1 ∷ 1 ∷ []
