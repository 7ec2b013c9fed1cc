-- A plant that may be run, part by part: what the tests of its limits and ranges say.
use Rattle.std.proofs.Common.{◌≡◌, ℕ, zero, suc, ◌-◌, ◌<◌, ◌≤◌, Bool, true, not, ◌&&◌, eqb, ltb, leb, List, [], ◌∷◌, ◌++◌, length, get_or, map, is_some, Option, Some, None, arith}
use Rattle.std.specs.List.{list_all}
use Rattle.std.specs.Option.{option_map_or}
use Rattle.std.proofs.lemmas.Bool.{and_parts, eqb-true, leb-true}
use Rattle.rail_base.specs.NameForms.{is_name}
use Rattle.rail_base.specs.declared.limits.TheConstants.{SECTIONS, TRAINS, ROUTE_SECTIONS, OVERLAP_SECTIONS, ITINERARY_ROUTES, DEPTH, INPUT_TIME, SECTION_LENGTH, TRAIN_LENGTH, SPEED, SETTING, WATCHING, APPROACH, RELEASE, OVERLAP, START, STOP, TURN_TIME}
use Rattle.rail_base.specs.declared.plant.Call.{Call}
use Rattle.rail_base.specs.declared.plant.SectionRow.{SectionRow}
use Rattle.rail_base.specs.declared.plant.TrainRow.{TrainRow}
use Rattle.rail_base.specs.declared.plant.TrainKind.{TrainKind}
use Rattle.rail_base.specs.declared.plant.MoveRow.{MoveRow}
use Rattle.rail_base.specs.declared.plant.TurnRow.{TurnRow}
use Rattle.rail_rules.specs.Numbers.{all_below}
use Rattle.rail_rules.specs.Moves.{is_valid}
use Rattle.rail_rules.specs.Plant.{Plant, no_move, no_section, section, trains, train, moves, move_row, overlap, moves_of, call_after}
use Rattle.rail_base.specs.Limits.{is_from_one}
use Rattle.rail_rules.specs.Accepted.{are_distinct_numbers, are_distinct_names, is_section_in_range, is_kind_in_range, is_turn_in_range, is_move_in_range, is_train_in_range, is_time_in_range, is_call_in_range, does_fit, are_calls_in_range, is_accepted}
use Rattle.rail_rules.proofs.Below.{all_below_at}

-- a test that all items pass is passed by the item at an index
pub list_all_get : {X : Type 0} (p : X → Bool) (xs : List X) (i : ℕ) (d : X) → list_all p xs ≡ true → i < length xs → p (get_or xs i d) ≡ true
list_all_get p [] i d all lt = absurd (omega arith)
list_all_get p (x ∷ xs) zero d all lt = (and_parts (p x) (list_all p xs) all).0
list_all_get p (x ∷ xs) (suc i) d all lt = list_all_get p xs i d (and_parts (p x) (list_all p xs) all).1 (omega arith)

-- a number from 1 to a limit
pub from_one : (limit n : ℕ) → is_from_one limit n ≡ true → (0 < n) × (n ≤ limit)
from_one limit n h = let both = and_parts (leb 1 n) (leb n limit) h in (leb-true 1 n both.0, leb-true n limit both.1)

-- the parts of the test of a plant
pub record IsAccepted (plant : Plant) : Type 0 where
  pub few_sections : length plant.tables.sections ≤ SECTIONS
  pub few_trains : trains plant ≤ TRAINS
  pub release : plant.tables.release ≤ RELEASE
  pub overlap_time : plant.tables.overlap_time ≤ OVERLAP
  pub depth : plant.tables.depth ≤ DEPTH
  pub sections : list_all is_section_in_range plant.tables.sections ≡ true
  pub section_names : are_distinct_names (map (λ (row : SectionRow). row.name) plant.tables.sections) ≡ true
  pub train_names : are_distinct_names (map (λ (row : TrainRow). row.name) plant.tables.trains) ≡ true
  pub trains_in_range : all_below (is_train_in_range plant) (trains plant) ≡ true
  pub fitting : all_below (does_fit plant) (trains plant) ≡ true
  pub calls : all_below (are_calls_in_range plant) (trains plant) ≡ true
  pub valid : is_valid (moves_of plant) ≡ true

pub accepted_parts : (plant : Plant) → is_accepted plant ≡ true → IsAccepted plant
accepted_parts plant h =
    let a1 : Bool = leb (length plant.tables.sections) SECTIONS in
    let a2 : Bool = leb (trains plant) TRAINS in
    let a3 : Bool = leb plant.tables.release RELEASE in
    let a4 : Bool = leb plant.tables.overlap_time OVERLAP in
    let a5 : Bool = leb plant.tables.depth DEPTH in
    let a6 : Bool = list_all is_section_in_range plant.tables.sections in
    let a7 : Bool = are_distinct_names (map (λ (row : SectionRow). row.name) plant.tables.sections) in
    let a8 : Bool = are_distinct_names (map (λ (row : TrainRow). row.name) plant.tables.trains) in
    let a9 : Bool = all_below (is_train_in_range plant) (trains plant) in
    let a10 : Bool = all_below (does_fit plant) (trains plant) in
    let a11 : Bool = all_below (are_calls_in_range plant) (trains plant) in
    let p11 = and_parts (a1 && a2 && a3 && a4 && a5 && a6 && a7 && a8 && a9 && a10 && a11) (is_valid (moves_of plant)) h in
    let p10 = and_parts (a1 && a2 && a3 && a4 && a5 && a6 && a7 && a8 && a9 && a10) a11 p11.0 in
    let p9 = and_parts (a1 && a2 && a3 && a4 && a5 && a6 && a7 && a8 && a9) a10 p10.0 in
    let p8 = and_parts (a1 && a2 && a3 && a4 && a5 && a6 && a7 && a8) a9 p9.0 in
    let p7 = and_parts (a1 && a2 && a3 && a4 && a5 && a6 && a7) a8 p8.0 in
    let p6 = and_parts (a1 && a2 && a3 && a4 && a5 && a6) a7 p7.0 in
    let p5 = and_parts (a1 && a2 && a3 && a4 && a5) a6 p6.0 in
    let p4 = and_parts (a1 && a2 && a3 && a4) a5 p5.0 in
    let p3 = and_parts (a1 && a2 && a3) a4 p4.0 in
    let p2 = and_parts (a1 && a2) a3 p3.0 in
    let p1 = and_parts a1 a2 p2.0 in
    record {
      few_sections = leb-true (length plant.tables.sections) SECTIONS p1.0;
      few_trains = leb-true (trains plant) TRAINS p1.1;
      release = leb-true plant.tables.release RELEASE p2.1;
      overlap_time = leb-true plant.tables.overlap_time OVERLAP p3.1;
      depth = leb-true plant.tables.depth DEPTH p4.1;
      sections = p5.1;
      section_names = p6.1;
      train_names = p7.1;
      trains_in_range = p8.1;
      fitting = p9.1;
      calls = p10.1;
      valid = p11.1;
    }

-- a section within the ranges
pub record IsSectionInRange (row : SectionRow) : Type 0 where
  pub named : is_name row.name ≡ true
  pub some_length : 0 < row.length
  pub length : row.length ≤ SECTION_LENGTH
  pub some_speed : 0 < row.speed
  pub speed : row.speed ≤ SPEED

pub section_in_range : (plant : Plant) → list_all is_section_in_range plant.tables.sections ≡ true → (x : ℕ) → x < length plant.tables.sections → IsSectionInRange (section plant x)
section_in_range plant h x lt =
    let row : SectionRow = section plant x in
    let p2 = and_parts (is_name row.name && is_from_one SECTION_LENGTH row.length) (is_from_one SPEED row.speed) (list_all_get is_section_in_range plant.tables.sections x no_section h lt) in
    let p1 = and_parts (is_name row.name) (is_from_one SECTION_LENGTH row.length) p2.0 in
    let long = from_one SECTION_LENGTH row.length p1.1 in
    let fast = from_one SPEED row.speed p2.1 in
    record { named = p1.0; some_length = long.0; length = long.1; some_speed = fast.0; speed = fast.1 }

-- a train's kind within the ranges
pub record IsKindInRange (kind : TrainKind) : Type 0 where
  pub length_from_one : is_from_one TRAIN_LENGTH kind.length ≡ true
  pub speed_from_one : is_from_one SPEED kind.speed ≡ true
  pub some_length : 0 < kind.length
  pub length : kind.length ≤ TRAIN_LENGTH
  pub some_speed : 0 < kind.speed
  pub speed : kind.speed ≤ SPEED
  pub start : kind.start ≤ START
  pub stop : kind.stop ≤ STOP

pub kind_in_range : (kind : TrainKind) → is_kind_in_range kind ≡ true → IsKindInRange kind
kind_in_range kind h =
    let p3 = and_parts (is_from_one TRAIN_LENGTH kind.length && is_from_one SPEED kind.speed && leb kind.start START) (leb kind.stop STOP) h in
    let p2 = and_parts (is_from_one TRAIN_LENGTH kind.length && is_from_one SPEED kind.speed) (leb kind.start START) p3.0 in
    let p1 = and_parts (is_from_one TRAIN_LENGTH kind.length) (is_from_one SPEED kind.speed) p2.0 in
    let long = from_one TRAIN_LENGTH kind.length p1.0 in
    let fast = from_one SPEED kind.speed p1.1 in
    record {
      length_from_one = p1.0;
      speed_from_one = p1.1;
      some_length = long.0;
      length = long.1;
      some_speed = fast.0;
      speed = fast.1;
      start = leb-true kind.start START p2.1;
      stop = leb-true kind.stop STOP p3.1;
    }

-- a train within the ranges
pub record IsRowInRange (plant : Plant) (t : ℕ) : Type 0 where
  pub named : is_name (train plant t).name ≡ true
  pub kind : IsKindInRange (train plant t).kind
  pub entry : (train plant t).entry ≤ INPUT_TIME
  pub some_move : 0 < moves plant t
  pub few_moves : moves plant t ≤ ITINERARY_ROUTES
  pub each_move : (m : ℕ) → m < moves plant t → is_move_in_range (length plant.tables.sections) (move_row plant t m) ≡ true
  pub no_last_overlap : length (overlap plant t (moves plant t - 1)) ≡ 0

pub row_in_range : (plant : Plant) → all_below (is_train_in_range plant) (trains plant) ≡ true → (t : ℕ) → t < trains plant → IsRowInRange plant t
row_in_range plant h t lt =
    let b1 : Bool = is_name (train plant t).name in
    let b2 : Bool = is_kind_in_range (train plant t).kind in
    let b3 : Bool = leb (train plant t).entry INPUT_TIME in
    let b4 : Bool = leb (train plant t).priority 255 in
    let b5 : Bool = is_from_one ITINERARY_ROUTES (moves plant t) in
    let b6 : Bool = list_all (is_move_in_range (length plant.tables.sections)) (train plant t).moves in
    let b7 : Bool = not (is_some (move_row plant t (moves plant t - 1)).turn) in
    let b8 : Bool = eqb (length (overlap plant t (moves plant t - 1))) 0 in
    let p7 = and_parts (b1 && b2 && b3 && b4 && b5 && b6 && b7) b8 (all_below_at (is_train_in_range plant) (trains plant) t h lt) in
    let p6 = and_parts (b1 && b2 && b3 && b4 && b5 && b6) b7 p7.0 in
    let p5 = and_parts (b1 && b2 && b3 && b4 && b5) b6 p6.0 in
    let p4 = and_parts (b1 && b2 && b3 && b4) b5 p5.0 in
    let p3 = and_parts (b1 && b2 && b3) b4 p4.0 in
    let p2 = and_parts (b1 && b2) b3 p3.0 in
    let p1 = and_parts b1 b2 p2.0 in
    let count = from_one ITINERARY_ROUTES (moves plant t) p4.1 in
    record {
      named = p1.0;
      kind = kind_in_range (train plant t).kind p1.1;
      entry = leb-true (train plant t).entry INPUT_TIME p2.1;
      some_move = count.0;
      few_moves = count.1;
      each_move = λ m lm. list_all_get (is_move_in_range (length plant.tables.sections)) (train plant t).moves m no_move p5.1 lm;
      no_last_overlap = eqb-true (length (overlap plant t (moves plant t - 1))) 0 p7.1;
    }

turn_time : (n : ℕ) (o : Option TurnRow) → is_turn_in_range n o ≡ true → option_map_or (λ (turn : TurnRow). turn.time) o 0 ≤ TURN_TIME
turn_time n None h = omega arith
turn_time n (Some turn) h = leb-true turn.time TURN_TIME (and_parts _ (leb turn.time TURN_TIME) h).1

-- a move within the ranges
pub record IsMoveInRange (sections : ℕ) (row : MoveRow) : Type 0 where
  pub some_step : 0 < length row.sections
  pub few_steps : length row.sections ≤ ROUTE_SECTIONS
  pub few_over : length row.overlap ≤ OVERLAP_SECTIONS
  pub known : list_all (λ x. ltb x sections) (row.sections ++ row.overlap) ≡ true
  pub distinct : are_distinct_numbers (row.sections ++ row.overlap) ≡ true
  pub some_setting : 0 < row.setting
  pub setting : row.setting ≤ SETTING
  pub watching : row.watching ≤ WATCHING
  pub approach : row.approach ≤ APPROACH
  pub turn : is_turn_in_range (length row.sections) row.turn ≡ true
  pub turn_time : option_map_or (λ (turn : TurnRow). turn.time) row.turn 0 ≤ TURN_TIME

pub move_in_range : (sections : ℕ) (row : MoveRow) → is_move_in_range sections row ≡ true → IsMoveInRange sections row
move_in_range sections row h =
    let c1 : Bool = is_from_one ROUTE_SECTIONS (length row.sections) in
    let c2 : Bool = leb (length row.overlap) OVERLAP_SECTIONS in
    let c3 : Bool = list_all (λ x. ltb x sections) (row.sections ++ row.overlap) in
    let c4 : Bool = are_distinct_numbers (row.sections ++ row.overlap) in
    let c5 : Bool = is_from_one SETTING row.setting in
    let c6 : Bool = leb row.watching WATCHING in
    let c7 : Bool = leb row.approach APPROACH in
    let c8 : Bool = is_turn_in_range (length row.sections) row.turn in
    let p7 = and_parts (c1 && c2 && c3 && c4 && c5 && c6 && c7) c8 h in
    let p6 = and_parts (c1 && c2 && c3 && c4 && c5 && c6) c7 p7.0 in
    let p5 = and_parts (c1 && c2 && c3 && c4 && c5) c6 p6.0 in
    let p4 = and_parts (c1 && c2 && c3 && c4) c5 p5.0 in
    let p3 = and_parts (c1 && c2 && c3) c4 p4.0 in
    let p2 = and_parts (c1 && c2) c3 p3.0 in
    let p1 = and_parts c1 c2 p2.0 in
    let steps_are = from_one ROUTE_SECTIONS (length row.sections) p1.0 in
    let setting_is = from_one SETTING row.setting p4.1 in
    record {
      some_step = steps_are.0;
      few_steps = steps_are.1;
      few_over = leb-true (length row.overlap) OVERLAP_SECTIONS p1.1;
      known = p2.1;
      distinct = p3.1;
      some_setting = setting_is.0;
      setting = setting_is.1;
      watching = leb-true row.watching WATCHING p5.1;
      approach = leb-true row.approach APPROACH p6.1;
      turn = p7.1;
      turn_time = turn_time (length row.sections) row.turn p7.1;
    }

-- a call within the ranges
pub record IsCallInRange (o : Option Call) : Type 0 where
  pub dwell : option_map_or (λ (call : Call). call.dwell) o 0 ≤ INPUT_TIME
  pub departure : option_map_or (λ (call : Call). option_map_or (λ (at : ℕ). at) call.departure 0) o 0 ≤ INPUT_TIME

call_times : (last turns : Bool) (o : Option Call) → is_call_in_range last turns o ≡ true → IsCallInRange o
call_times last turns None h = record { dwell = omega arith; departure = omega arith }
call_times last turns (Some call) h =
    let a : Bool = is_time_in_range call.arrival in
    let b : Bool = is_time_in_range call.departure in
    let c : Bool = leb call.dwell INPUT_TIME in
    let three = (and_parts (a && b && c) _ (and_parts _ _ (and_parts _ _ h).0).0).0 in
    let both = and_parts (a && b) c three in
    record { dwell = leb-true call.dwell INPUT_TIME both.1; departure = of_time call.departure (and_parts a b both.0).1 }
  where
    of_time : (o : Option ℕ) → is_time_in_range o ≡ true → option_map_or (λ (at : ℕ). at) o 0 ≤ INPUT_TIME
    of_time None h = omega arith
    of_time (Some time) h = leb-true time INPUT_TIME h

pub call_in_range : (plant : Plant) → all_below (are_calls_in_range plant) (trains plant) ≡ true → (t m : ℕ) → t < trains plant → m < moves plant t → IsCallInRange (call_after plant t m)
call_in_range plant h t m lt lm =
    call_times (eqb (suc m) (moves plant t)) (is_some (move_row plant t m).turn) (call_after plant t m)
    (all_below_at (λ k. is_call_in_range (eqb (suc k) (moves plant t)) (is_some (move_row plant t k).turn) (call_after plant t k)) (moves plant t) m (all_below_at (are_calls_in_range plant) (trains plant) t h lt) lm)
