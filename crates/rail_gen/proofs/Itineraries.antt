-- Each train of a line is accepted, whatever its tracks: all choices of tracks are tried.
use Rattle.std.proofs.Common.{◌≡◌, ℕ, ◌-◌, ◌≤◌, ◌<◌, zero, suc, Bool, true, false, not, cond, ◌&&◌, List, [], ◌∷◌, length, Option, Some, None, is_some, refl, arith}
use Rattle.std.proofs.lemmas.Bool.{and_parts}
use Rattle.rail_base.specs.FirstRefusals.{first_failing}
use Rattle.rail_base.specs.declared.plant.TrainRow.{TrainRow}
use Rattle.rail_rules.specs.Plant.{Plant, train, moves}
use Rattle.rail_rules.specs.Numbers.{or_else}
use Rattle.rail_plan.specs.declared.faults.PlanFault.{PlanFault}
use Rattle.rail_plan.specs.declared.faults.PlanFault.TheVariants.{TooLong}
use Rattle.rail_plan.specs.PlanFaults.{bare, is_too_long, blocked_by, blocking, first_answer}
use Rattle.rail_scene.specs.declared.scene.Scene.{Scene}
use Rattle.rail_scene.specs.declared.scene.SceneTrain.{SceneTrain}
use Rattle.rail_compile.specs.Itineraries.{tables_of, train_row}
use Rattle.rail_compile.specs.Refusals.{train_tests}
use Rattle.rail_gen.specs.MadeScenes.{itinerary, kind_name, line_scene}

-- a test passes at each choice of so many tracks
abbrev pub always : ℕ → (List Bool → Bool) → Bool
always zero test = test []
always (suc n) test = always n (λ tracks. test (false ∷ tracks)) && always n (λ tracks. test (true ∷ tracks))

pub always_at : (n : ℕ) (test : List Bool → Bool) → always n test ≡ true → (tracks : List Bool) → length tracks ≡ n → test tracks ≡ true
always_at zero test all [] is = all
always_at zero test all (b ∷ tracks) is = absurd (omega (arith, is))
always_at (suc n) test all [] is = absurd (omega (arith, is))
always_at (suc n) test all (false ∷ tracks) is =
    always_at n (λ tracks. test (false ∷ tracks)) (and_parts (always n (λ tracks. test (false ∷ tracks))) (always n (λ tracks. test (true ∷ tracks))) all).0 tracks (omega (arith, is))
always_at (suc n) test all (true ∷ tracks) is =
    always_at n (λ tracks. test (true ∷ tracks)) (and_parts (always n (λ tracks. test (false ∷ tracks))) (always n (λ tracks. test (true ∷ tracks))) all).1 tracks (omega (arith, is))

-- the plant of a scene with one train, by its row
abbrev pub alone : Scene → TrainRow → Plant
alone scene row = bare (record (tables_of scene) { trains = row ∷ [] })

-- the fault of a train by its row, told as that of train t
abbrev pub fault_of_row : Scene → ℕ → TrainRow → Option PlanFault
fault_of_row scene t row =
    first_answer (λ m. or_else (cond (is_too_long (alone scene row) 0 m) (Some (TooLong t (suc m))) None) (blocked_by t (suc m) (blocking (alone scene row) 0 m)))
    (moves (alone scene row) 0 - 1)

-- a train is accepted, whatever its number, its entry and its priority
abbrev pub is_fine : Scene → ℕ → ℕ → SceneTrain → Bool
is_fine scene item t train = not (is_some (first_failing (train_tests scene item train))) && not (is_some (fault_of_row scene t (train_row scene train)))

module _ (trains : List SceneTrain) (item t : ℕ) (name : List ℕ) (entry priority : ℕ) where
  abbrev pub made : ℕ → Bool → ℕ → List Bool → SceneTrain
  made count west kind tracks = record { name = name; kind = kind_name kind; entry = entry; priority = priority; routes = itinerary count west tracks }

  abbrev pub fine : ℕ → Bool → ℕ → Bool
  fine count west kind = always count (λ tracks. is_fine (line_scene count trains) item t (made count west kind tracks))

  -- all trains of a line are fine, of each kind and in each direction
  record AllFine (count : ℕ) : Type 0 where
    fast_east : fine count false 0 ≡ true
    fast_west : fine count true 0 ≡ true
    local_east : fine count false 1 ≡ true
    local_west : fine count true 1 ≡ true
    goods_east : fine count false 2 ≡ true
    goods_west : fine count true 2 ≡ true

  two : AllFine 2
  two = record { fast_east = refl; fast_west = refl; local_east = refl; local_west = refl; goods_east = refl; goods_west = refl }

  three : AllFine 3
  three = record { fast_east = refl; fast_west = refl; local_east = refl; local_west = refl; goods_east = refl; goods_west = refl }

  four : AllFine 4
  four = record { fast_east = refl; fast_west = refl; local_east = refl; local_west = refl; goods_east = refl; goods_west = refl }

  five : AllFine 5
  five = record { fast_east = refl; fast_west = refl; local_east = refl; local_west = refl; goods_east = refl; goods_west = refl }

  six : AllFine 6
  six = record { fast_east = refl; fast_west = refl; local_east = refl; local_west = refl; goods_east = refl; goods_west = refl }

  seven : AllFine 7
  seven = record { fast_east = refl; fast_west = refl; local_east = refl; local_west = refl; goods_east = refl; goods_west = refl }

  eight : AllFine 8
  eight = record { fast_east = refl; fast_west = refl; local_east = refl; local_west = refl; goods_east = refl; goods_west = refl }

  all_fine : (count : ℕ) → 2 ≤ count → count ≤ 8 → AllFine count
  all_fine zero low high = absurd (omega arith)
  all_fine (suc zero) low high = absurd (omega arith)
  all_fine (suc (suc zero)) low high = two
  all_fine (suc (suc (suc zero))) low high = three
  all_fine (suc (suc (suc (suc zero)))) low high = four
  all_fine (suc (suc (suc (suc (suc zero))))) low high = five
  all_fine (suc (suc (suc (suc (suc (suc zero)))))) low high = six
  all_fine (suc (suc (suc (suc (suc (suc (suc zero))))))) low high = seven
  all_fine (suc (suc (suc (suc (suc (suc (suc (suc zero)))))))) low high = eight
  all_fine (suc (suc (suc (suc (suc (suc (suc (suc (suc more))))))))) low high = absurd (omega arith)

  pub fine_any : (count : ℕ) → 2 ≤ count → count ≤ 8 → (west : Bool) (kind : ℕ) → kind < 3 → fine count west kind ≡ true
  fine_any count low high false zero is = (all_fine count low high).fast_east
  fine_any count low high true zero is = (all_fine count low high).fast_west
  fine_any count low high false (suc zero) is = (all_fine count low high).local_east
  fine_any count low high true (suc zero) is = (all_fine count low high).local_west
  fine_any count low high false (suc (suc zero)) is = (all_fine count low high).goods_east
  fine_any count low high true (suc (suc zero)) is = (all_fine count low high).goods_west
  fine_any count low high west (suc (suc (suc more))) is = absurd (omega (arith, is))
