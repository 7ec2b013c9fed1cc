-- No refusal of what files hold is one of a file for its size.
use Rattle.std.proofs.Common.{◌≡◌, ℕ, ◌+◌, suc, false, List, [], ◌∷◌, Option, Some, None, option_and_then, sym, ap, refl}
use Rattle.std.specs.Option.{option_or}
use Rattle.std.proofs.lemmas.Option.{none-some, same_Some}
use Rattle.rail_base.specs.FirstRefusals.{Test, first_failing}
use Rattle.rail_base.specs.Refusals.{AnswersFirst, is_file, refusal_in}
use Rattle.rail_base.specs.declared.plant.Call.{Call}
use Rattle.rail_base.specs.declared.plant.Tables.{Tables}
use Rattle.rail_base.specs.declared.refusals.Fault.{Fault}
use Rattle.rail_base.specs.declared.refusals.Fault.TheVariants as fault
use Rattle.rail_base.specs.declared.refusals.Refusal.{Refusal}
use Rattle.rail_base.proofs.CallerLemmas.{AreOfBytes, first_of_bytes, of_both}
use Rattle.rail_routes.specs.declared.items.Route.{Route}
use Rattle.rail_routes.specs.Net.{Net}
use Rattle.rail_plan.specs.declared.faults.PlanFault.{PlanFault}
use Rattle.rail_plan.specs.declared.faults.PlanFault.TheVariants as plan_fault
use Rattle.rail_plan.specs.PlanFaults.{fault_of}
use Rattle.rail_plan.specs.CallTables.{no_calls}
use Rattle.rail_scene.specs.declared.scene.Scene.{Scene}
use Rattle.rail_scene.specs.declared.scene.SceneTrain.{SceneTrain}
use Rattle.rail_scene.specs.Order.{scene_refusal}
use Rattle.rail_scene.proofs.CallerLemmas.{scene_of_bytes}
use Rattle.rail_compile.specs.Itineraries.{routes_of, tables_of}
use Rattle.rail_compile.specs.Refusals.{compile_refusal, fault_for, place_tests, train_tests, trains_tests}
use Rattle.rail_command_file.specs.Commands.{commands_refusal, lines_tests, line_tests, time_on}
use Rattle.rail_text.specs.Lines.{Line, lines_of}
use Rattle.rail_timetable.specs.Records.{records_in}
use Rattle.rail_timetable.specs.Timetables.{file_tests, record_tests, records_tests, timetable_refusal, with_record}
use Rattle.rail_input.specs.Inputs.{refuses_file}

-- where this is a refusal, it is none of a file
abbrev RefusesNoFile : Option Refusal → Type 0
RefusesNoFile first = (refusal : Refusal) → first ≡ Some refusal → is_file refusal.part ≡ false

-- a fault that answers such a refusal
of_answer : (first : Option Refusal) → RefusesNoFile first → (fault : Fault) → AnswersFirst first fault → refuses_file fault ≡ false
of_answer first none fault.OutOfMemory answers = refl
of_answer first none (fault.Refused refusal) answers = none refusal answers

-- none of the tests refuses a file, and so the first that fails does not
of_tests : (tests : List (Test Refusal)) → AreOfBytes tests → RefusesNoFile (first_failing tests)
of_tests tests all refusal is = first_of_bytes tests refusal all is

-- a fault that answers the refusal of a scene
pub scene_fault : (bytes : List ℕ) (fault : Fault) → AnswersFirst (scene_refusal bytes) fault → refuses_file fault ≡ false
scene_fault bytes = of_answer (scene_refusal bytes) (scene_of_bytes bytes)

-- the tests of the trains of a scene
of_places : (net : Net) (item place : ℕ) (routes : List Route) → AreOfBytes (place_tests net item place routes)
of_places net item place [] = tt
of_places net item place (route ∷ []) = tt
of_places net item place (route ∷ next ∷ rest) = (refl, of_places net item (suc place) (next ∷ rest))

of_train_tests : (scene : Scene) (item : ℕ) (train : SceneTrain) → AreOfBytes (train_tests scene item train)
of_train_tests scene item train = let routes : List Route = routes_of scene.network train.routes in
    (refl, (refl, (refl, of_both (place_tests scene.network item 1 routes) _ (of_places scene.network item 1 routes) (refl, tt))))

of_trains : (scene : Scene) (item : ℕ) (trains : List SceneTrain) → AreOfBytes (trains_tests scene item trains)
of_trains scene item [] = tt
of_trains scene item (train ∷ rest) = of_both (train_tests scene item train) (trains_tests scene (suc item) rest) (of_train_tests scene item train) (of_trains scene (suc item) rest)

-- a fault of a plant
of_fault : (why : Option PlanFault) → RefusesNoFile (option_and_then (λ why. refusal_in (fault_for why)) why)
of_fault None refusal is = absurd (none-some refusal is)
of_fault (Some (plan_fault.TooLong t place)) refusal is = sym (ap (λ (r : Refusal). is_file r.part) (same_Some _ refusal is))
of_fault (Some (plan_fault.SelfBlocked t place section)) refusal is = sym (ap (λ (r : Refusal). is_file r.part) (same_Some _ refusal is))
of_fault (Some plan_fault.OutOfMemory) refusal is = absurd (none-some refusal is)

of_compiling : (scene : Scene) → RefusesNoFile (compile_refusal scene)
of_compiling scene = by (first_failing (trains_tests scene 1 scene.trains)) (of_tests (trains_tests scene 1 scene.trains) (of_trains scene 1 scene.trains))
  where
    by : (first : Option Refusal) → RefusesNoFile first → RefusesNoFile (option_or first (option_and_then (λ why. refusal_in (fault_for why)) (fault_of (tables_of scene))))
    by None none refusal is = of_fault (fault_of (tables_of scene)) refusal is
    by (Some first) none refusal is = none refusal is

-- a fault that answers the refusal of the plant of a scene
pub compile_fault : (scene : Scene) (fault : Fault) → AnswersFirst (compile_refusal scene) fault → refuses_file fault ≡ false
compile_fault scene = of_answer (compile_refusal scene) (of_compiling scene)

-- the tests of the records of a timetable
of_records : (tables : Tables) (calls : List (List (Option Call))) (n : ℕ) (records : List (List (List ℕ))) → AreOfBytes (records_tests tables calls n records)
of_records tables calls n [] = tt
of_records tables calls n (fields ∷ records) = of_both (record_tests tables calls n fields) (records_tests tables (with_record tables calls fields) (n + 1) records)
    (refl, (refl, (refl, tt))) (of_records tables (with_record tables calls fields) (n + 1) records)

of_file : (tables : Tables) (records : List (List (List ℕ))) → AreOfBytes (file_tests tables records)
of_file tables [] = (refl, tt)
of_file tables (header ∷ records) = (refl, of_records tables (no_calls tables) 2 records)

-- a fault that answers the refusal of a timetable
pub timetable_fault : (tables : Tables) (bytes : List ℕ) (fault : Fault) → AnswersFirst (timetable_refusal tables bytes) fault → refuses_file fault ≡ false
timetable_fault tables bytes = of_answer (timetable_refusal tables bytes) (of_tests (file_tests tables (records_in bytes)) (of_file tables (records_in bytes)))

-- the tests of the lines of a command file
of_lines : (sections trains : List (List ℕ)) (before earliest : ℕ) (lines : List Line) → AreOfBytes (lines_tests sections trains before earliest lines)
of_lines sections trains before earliest [] = tt
of_lines sections trains before earliest (line ∷ lines) = of_both (line_tests sections trains before earliest line) (lines_tests sections trains (suc before) (time_on line) lines)
    (refl, (refl, (refl, (refl, tt)))) (of_lines sections trains (suc before) (time_on line) lines)

-- a fault that answers the refusal of commands
pub commands_fault : (sections trains : List (List ℕ)) (bytes : List ℕ) (fault : Fault) → AnswersFirst (commands_refusal sections trains bytes) fault → refuses_file fault ≡ false
commands_fault sections trains bytes = of_answer (commands_refusal sections trains bytes)
    (of_tests (lines_tests sections trains 0 0 (lines_of bytes)) (of_lines sections trains 0 0 (lines_of bytes)))
