-- A line scene whose trains are made is accepted when it is compiled.
use Rattle.std.proofs.Common.{◌≡◌, ℕ, ◌*◌, ◌<◌, ◌≤◌, zero, suc, true, not, List, [], ◌∷◌, ◌++◌, map, length, get_or, codes, Option, Some, None, is_some, option_and_then, refl, ap, ◌∙◌, arith}
use Rattle.std.specs.Option.{option_or}
use Rattle.std.proofs.lemmas.Bool.{and_parts}
use Rattle.rail_base.specs.Clock.{two_digits}
use Rattle.rail_base.specs.FirstRefusals.{first_failing}
use Rattle.rail_base.specs.Refusals.{refusal_in}
use Rattle.rail_base.specs.declared.plant.TrainRow.{TrainRow}
use Rattle.rail_base.proofs.CallerLemmas.{first_failing-append}
use Rattle.rail_rules.specs.Numbers.{or_else}
use Rattle.rail_rules.specs.Plant.{train, no_train}
use Rattle.rail_plan.specs.PlanFaults.{bare, first_answer, fault_of_train, fault_of}
use Rattle.rail_scene.specs.declared.scene.Scene.{Scene}
use Rattle.rail_scene.specs.declared.scene.SceneTrain.{SceneTrain}
use Rattle.rail_compile.specs.Itineraries.{tables_of, train_row}
use Rattle.rail_compile.specs.Refusals.{train_tests, trains_tests, fault_for, compile_refusal}
use Rattle.rail_gen.specs.MadeScenes.{line_scene}
use Rattle.rail_gen.proofs.Itineraries.{always_at, is_fine, fault_of_row, made, fine_any}
use Rattle.rail_gen.proofs.MadeTrains.{IsMade, Each}

none_of : {X : Type 0} (o : Option X) → not (is_some o) ≡ true → o ≡ None
none_of None h = refl
none_of (Some x) h = cc

module _ (count : ℕ) (low : 2 ≤ count) (high : count ≤ 8) (trains : List SceneTrain) where
  abbrev scene : Scene
  scene = line_scene count trains

  -- a train that is made is fine
  fine_train : (item t : ℕ) (train : SceneTrain) → IsMade count train → is_fine scene item t train ≡ true
  fine_train item t train is =
      let words = is.words in
      let name = codes "T" ++ two_digits is.number in
      ap (is_fine scene item t) is.is
      ∙ always_at count (λ tracks. is_fine scene item t (made trains item t name (10 * words.entry) words.priority count words.is_westbound words.kind tracks))
      (fine_any trains item t name (10 * words.entry) words.priority count low high words.is_westbound words.kind is.kind) words.tracks is.tracks

  record Fine (item t : ℕ) (train : SceneTrain) : Type 0 where
    tests : first_failing (train_tests scene item train) ≡ None
    fault : fault_of_row scene t (train_row scene train) ≡ None

  fine_parts : (item t : ℕ) (train : SceneTrain) → IsMade count train → Fine item t train
  fine_parts item t train is =
      let (tests, fault) = and_parts (not (is_some (first_failing (train_tests scene item train)))) (not (is_some (fault_of_row scene t (train_row scene train)))) (fine_train item t train is) in
      record { tests = none_of _ tests; fault = none_of _ fault }

  tests_none : (item : ℕ) (rest : List SceneTrain) → Each (IsMade count) rest → first_failing (trains_tests scene item rest) ≡ None
  tests_none item [] all = refl
  tests_none item (x ∷ xs) all =
      first_failing-append (train_tests scene item x) (trains_tests scene (suc item) xs)
      ∙ ap (λ o. option_or o (first_failing (trains_tests scene (suc item) xs))) (fine_parts item 0 x all.0).tests
      ∙ tests_none (suc item) xs all.1

  -- the row of a train by its number
  record RowAt (rows : List TrainRow) (t : ℕ) : Type 0 where
    train : SceneTrain
    made_of : IsMade count train
    is : get_or rows t no_train ≡ train_row scene train

  row_at : (rest : List SceneTrain) → Each (IsMade count) rest → (t : ℕ) → t < length rest → RowAt (map (train_row scene) rest) t
  row_at [] all t less = absurd (omega arith)
  row_at (x ∷ xs) all zero less = record { train = x; made_of = all.0; is = refl }
  row_at (x ∷ xs) all (suc t) less = let later = row_at xs all.1 t (omega arith) in record { train = later.train; made_of = later.made_of; is = later.is }

  fault_is : (t : ℕ) → fault_of_train (bare (tables_of scene)) t ≡ fault_of_row scene t (train (bare (tables_of scene)) t)
  fault_is t = refl

  fault_none : Each (IsMade count) trains → (t : ℕ) → t < length trains → fault_of_train (bare (tables_of scene)) t ≡ None
  fault_none all t less =
      let row = row_at trains all t less in
      fault_is t ∙ ap (fault_of_row scene t) row.is ∙ (fine_parts 0 t row.train row.made_of).fault

  answers_none : {X : Type 0} (f : ℕ → Option X) (n : ℕ) → ((t : ℕ) → t < n → f t ≡ None) → first_answer f n ≡ None
  answers_none f zero none = refl
  answers_none f (suc n) none = (λ i. or_else (answers_none f n (λ t less. none t (omega arith)) i) (f n)) ∙ none n (omega arith)

  rows_count : (rest : List SceneTrain) → length (map (train_row scene) rest) ≡ length rest
  rows_count [] = refl
  rows_count (x ∷ xs) = ap suc (rows_count xs)

  pub compiled : Each (IsMade count) trains → compile_refusal scene ≡ None
  compiled all =
      let faults : fault_of (tables_of scene) ≡ None =
      answers_none (fault_of_train (bare (tables_of scene))) (length (map (train_row scene) trains)) (λ t less. fault_none all t (omega (arith, rows_count trains))) in
      λ i. option_or (tests_none 1 trains all i) (option_and_then (λ why. refusal_in (fault_for why)) (faults i))
