-- What the files of a run spell, and why they are refused.
use Rattle.std.specs.Prelude.{ℕ, Bool, false, cond, List, [], map, Option, Some, None, unwrap_or, option_and_then, position}
use Rattle.std.specs.List.{list_any}
use Rattle.std.specs.Option.{option_map_or}
use Rattle.rail_base.specs.NameForms.{same_name}
use Rattle.rail_base.specs.Refusals.{is_file}
use Rattle.rail_base.specs.declared.orders.Command.{Command}
use Rattle.rail_base.specs.declared.plant.SectionRow.{SectionRow}
use Rattle.rail_base.specs.declared.plant.Tables.{Tables}
use Rattle.rail_base.specs.declared.plant.TrainRow.{TrainRow}
use Rattle.rail_base.specs.declared.refusals.Fault.{Fault}
use Rattle.rail_base.specs.declared.refusals.Fault.TheVariants as fault
use Rattle.rail_base.specs.declared.refusals.Part.TheVariants.{Root}
use Rattle.rail_base.specs.declared.refusals.Reason.TheVariants.{UnknownPolicy}
use Rattle.rail_base.specs.declared.refusals.Refusal.{Refusal}
use Rattle.rail_rules.specs.Numbers.{or_else}
use Rattle.rail_rules.specs.Orders.{Input}
use Rattle.rail_rules.specs.Plant.{Plant}
use Rattle.rail_plan.specs.CallTables.{with_calls}
use Rattle.rail_scene.specs.Order.{scene_refusal}
use Rattle.rail_scene.specs.SpelledScenes.{spelled_scene}
use Rattle.rail_scene.specs.declared.scene.Scene.{Scene}
use Rattle.rail_compile.specs.Itineraries.{plant_of_scene}
use Rattle.rail_compile.specs.Refusals.{compile_refusal}
use Rattle.rail_command_file.specs.Commands.{commands_in, commands_refusal}
use Rattle.rail_timetable.specs.Timetables.{calls_in, timetable_refusal}

-- why a scene and its plant are refused
abbrev pub plant_refusal : List ℕ → Option Refusal
plant_refusal bytes = or_else (scene_refusal bytes) (compile_refusal (spelled_scene bytes))

-- the plant that a scene file spells
abbrev pub plant_in : List ℕ → Plant
plant_in bytes = plant_of_scene (spelled_scene bytes)

-- the refusal of a scene whose policy is not in the deck: the policy is the fourth key of the root
abbrev pub unknown_policy : Refusal
unknown_policy = record { reason = UnknownPolicy; part = Root; item = 0; step = 4 }

-- why the policy of a scene is refused: no name of the deck is its name
abbrev pub policy_refusal : List ℕ → List (List ℕ) → Option Refusal
policy_refusal policy deck = cond (list_any (same_name policy) deck) None (Some unknown_policy)

-- the place in the deck of the first policy of this name, counted from 0
abbrev pub index_in_deck : List ℕ → List (List ℕ) → Option ℕ
index_in_deck policy deck = position (same_name policy) deck

-- the place of the policy that is in force first; 0 stands for one that the deck doesn't have
abbrev pub force_of : List ℕ → List (List ℕ) → ℕ
force_of policy deck = unwrap_or (index_in_deck policy deck) 0

-- why the timetable of a plant is refused; nothing is refused without one
abbrev pub calls_refusal : Tables → Option (List ℕ) → Option Refusal
calls_refusal tables timetable = option_and_then (timetable_refusal tables) timetable

-- the plant with the calls of its timetable; without one it stays as it is
abbrev pub with_timetable : Plant → Option (List ℕ) → Plant
with_timetable plant timetable = option_map_or (λ bytes. with_calls plant.tables (calls_in plant.tables bytes)) timetable plant

-- the names of the sections, in the order of their numbers
abbrev pub section_names : Tables → List (List ℕ)
section_names tables = map (λ (row : SectionRow). row.name) tables.sections

-- the names of the trains, in the order of their numbers
abbrev pub train_names : Tables → List (List ℕ)
train_names tables = map (λ (row : TrainRow). row.name) tables.trains

-- why the commands for a plant are refused; nothing is refused without a file of them
abbrev pub orders_refusal : Tables → Option (List ℕ) → Option Refusal
orders_refusal tables commands = option_and_then (commands_refusal (section_names tables) (train_names tables)) commands

-- the commands for a plant; without a file there are none
abbrev pub commands_of : Tables → Option (List ℕ) → List Command
commands_of tables commands = option_map_or (commands_in (section_names tables) (train_names tables)) commands []

-- why the files of a run are refused, with a deck of policies of these names: the scene first, then its plant, its policy,
-- the timetable, and the commands
abbrev pub input_refusal : List ℕ → Option (List ℕ) → Option (List ℕ) → List (List ℕ) → Option Refusal
input_refusal scene timetable commands deck =
    or_else (plant_refusal scene)
    (or_else (policy_refusal (spelled_scene scene).policy deck)
    (or_else (calls_refusal (plant_in scene).tables timetable)
    (orders_refusal (plant_in scene).tables commands)))

-- what the files of a run spell: the plant of the scene with the calls of the timetable, the commands, and the names of
-- the deck with the place of the scene's policy
abbrev pub input_in : List ℕ → Option (List ℕ) → Option (List ℕ) → List (List ℕ) → Input
input_in scene timetable commands deck = record {
  plant = with_timetable (plant_in scene) timetable;
  commands = commands_of (plant_in scene).tables commands;
  deck = deck;
  force = force_of (spelled_scene scene).policy deck;
}

-- the run of a scene by itself: no calls and no commands; where the deck has no policy of the scene's name, its first one
-- is in force
abbrev pub scene_input : Scene → List (List ℕ) → Input
scene_input scene deck = record {
  plant = plant_of_scene scene;
  commands = [];
  deck = deck;
  force = force_of scene.policy deck;
}

-- the fault refuses a file for its size
abbrev pub refuses_file : Fault → Bool
refuses_file (fault.Refused refusal) = is_file refusal.part
refuses_file fault.OutOfMemory = false
