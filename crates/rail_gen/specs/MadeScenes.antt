-- Made-up scenes: what a number says of a line plant and its trains, by the words of a generator in order.
use Rattle.std.specs.Prelude.{ℕ, zero, suc, ◌+◌, ◌-◌, ◌*◌, ◌%◌, ◌==◌, Bool, if◌then◌else◌, List, [], ◌∷◌, ◌++◌, codes}
use Rattle.rand_core.specs.Pcg32Seed.{pcg32_seed}
use Rattle.rand_pcg.specs.Lcg.{Lcg}
use Rattle.rand_pcg.specs.Pcg.{pcg32, pcg32_of_seed}
use Rattle.rail_base.specs.Clock.{two_digits}
use Rattle.rail_base.specs.declared.plant.TrainKind.{TrainKind}
use Rattle.rail_scene.specs.declared.scene.Scene.{Scene}
use Rattle.rail_scene.specs.declared.scene.SceneTrain.{SceneTrain}
use Rattle.rail_gen.specs.LinePlants.{TrackLetters, track_a, track_b, route_name, line_network}

-- the generator of a number
abbrev pub generator_of : ℕ → Lcg
generator_of number = pcg32_of_seed (pcg32_seed 16 number)

-- the next word, modulo a number, and the generator after it
abbrev pub drawn : ℕ → Lcg → ℕ × Lcg
drawn modulus generator = ((pcg32 generator).0 % modulus, (pcg32 generator).1)

-- whether a word modulo 2 is 1
abbrev pub coin : Lcg → Bool × Lcg
coin generator = let word = drawn 2 generator in (word.0 == 1, word.1)

-- so many of them in order
unfoldable pub coins : ℕ → Lcg → List Bool × Lcg
coins zero generator = ([], generator)
coins (suc more) generator = let first = coin generator in let rest = coins more first.1 in (first.0 ∷ rest.0, rest.1)

-- what the words say of a train: whether it goes to the west, when it enters in seconds, the number of its kind, its priority,
-- and for each station on its way whether it takes track `b`
pub record TrainWords : Type 0 where
  pub is_westbound : Bool
  pub entry : ℕ
  pub kind : ℕ
  pub priority : ℕ
  pub tracks : List Bool

-- the words of a train on a line with so many stations, and the generator after them
unfoldable pub train_words : ℕ → Lcg → TrainWords × Lcg
train_words count generator =
    let way = coin generator in
    let entry = drawn 7_200 way.1 in
    let kind = drawn 3 entry.1 in
    let priority = drawn 4 kind.1 in
    let tracks = coins count priority.1 in
    (record { is_westbound = way.0; entry = entry.0; kind = kind.0; priority = priority.0; tracks = tracks.0 }, tracks.1)

-- the track of a station that a train takes
abbrev pub track_of : Bool → TrackLetters
track_of is_b = if is_b then track_b else track_a

-- the routes of a train to the east, from this station on
abbrev pub eastward : ℕ → List Bool → List (List ℕ)
eastward k [] = []
eastward k (is_b ∷ tracks) =
    route_name (codes "ein") k (track_of is_b) ∷ route_name (codes "eout") k (track_of is_b) ∷ eastward (k + 1) tracks

-- the routes of a train to the west, from this station on
abbrev pub westward : ℕ → List Bool → List (List ℕ)
westward k [] = []
westward k (is_b ∷ tracks) =
    route_name (codes "win") k (track_of is_b) ∷ route_name (codes "wout") k (track_of is_b) ∷ westward (k - 1) tracks

-- the itinerary of a train over a line with so many stations
abbrev pub itinerary : ℕ → Bool → List Bool → List (List ℕ)
itinerary count is_westbound tracks = if is_westbound then codes "wstart" ∷ westward count tracks else codes "estart" ∷ eastward 1 tracks

-- the name of the train kind of a number below three
abbrev pub kind_name : ℕ → List ℕ
kind_name kind = if kind == 0 then codes "fast" else (if kind == 1 then codes "local" else codes "goods")

-- the train kinds
abbrev pub line_kinds : List TrainKind
line_kinds =
    record { name = codes "fast"; length = 200; speed = 160; start = 200; stop = 150 }
    ∷ record { name = codes "local"; length = 100; speed = 120; start = 150; stop = 120 }
    ∷ record { name = codes "goods"; length = 500; speed = 90; start = 400; stop = 300 }
    ∷ []

-- train number n of a line with so many stations
abbrev pub train_of : ℕ → ℕ → TrainWords → SceneTrain
train_of count n words = record {
  name = codes "T" ++ two_digits n;
  kind = kind_name words.kind;
  entry = 10 * words.entry;
  priority = words.priority;
  routes = itinerary count words.is_westbound words.tracks;
}

-- so many trains from number n on, by the words of the generator in order
unfoldable pub trains_from : ℕ → ℕ → ℕ → Lcg → List SceneTrain
trains_from count n zero generator = []
trains_from count n (suc more) generator =
    let words = train_words count generator in train_of count n words.0 ∷ trains_from count (n + 1) more words.1

-- a scene of the line with so many stations and these trains
abbrev pub line_scene : ℕ → List SceneTrain → Scene
line_scene count trains = record {
  release = 30;
  depth = 1;
  policy = codes "fcfs";
  overlap_time = 0;
  network = line_network count;
  kinds = line_kinds;
  trains = trains;
}

-- the scene of a number: 2 to 8 stations and 4 to 32 trains, by the first two words, and then the trains
unfoldable pub made_scene : ℕ → Scene
made_scene number =
    let stations = drawn 7 (generator_of number) in
    let trains = drawn 29 stations.1 in
    line_scene (2 + stations.0) (trains_from (2 + stations.0) 1 (4 + trains.0) trains.1)
