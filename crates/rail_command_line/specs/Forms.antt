-- The table of words: the forms of a command line, what the words of each spell, and what a request says.
use Rattle.std.specs.Prelude.{◌≡◌, ℕ, ◌<◌, ◌≤◌, ◌^◌, find, List, [], ◌∷◌, ◌++◌, Option, Some, None, codes, decimal}
use Rattle.std.specs.Option.{option_copied}
use Rattle.std.specs.Str.{bytes_eq}
use Rattle.rail_base.specs.Clock.{IsLenientTime}
use Rattle.rail_command_line.specs.declared.files.FileRole.TheVariants as role
use Rattle.rail_command_line.specs.declared.forms.Form.{Form}
use Rattle.rail_command_line.specs.declared.forms.Form.TheVariants.{Run, Infra, Play, Check, Stairs, Report, Capacity, Insert, Edit, Migrate, Reroute, Save, Resume, Scene, Gen}
use Rattle.rail_command_line.specs.declared.forms.PathRequest.{PathRequest}
use Rattle.rail_command_line.specs.declared.forms.TheConstants.{PATHS}
use Rattle.rail_command_line.specs.declared.forms.Request.{Request}
use Rattle.rail_command_line.specs.declared.forms.Request.TheVariants as request
use Rattle.rail_command_line.specs.declared.forms.Scenario.{Scenario as Named}
use Rattle.rail_command_line.specs.Files.{File, file_as, named_file}

-- the word that a command line of the form begins with
abbrev pub verb_of : Form → List ℕ
verb_of Run = codes "run"
verb_of Infra = codes "infra"
verb_of Play = codes "play"
verb_of Check = codes "check"
verb_of Stairs = codes "stairs"
verb_of Report = codes "report"
verb_of Capacity = codes "capacity"
verb_of Insert = codes "insert"
verb_of Edit = codes "edit"
verb_of Migrate = codes "migrate"
verb_of Reroute = codes "reroute"
verb_of Save = codes "save"
verb_of Resume = codes "resume"
verb_of Scene = codes "scene"
verb_of Gen = codes "gen"

-- all forms
abbrev pub all_forms : List Form
all_forms = Run ∷ Infra ∷ Play ∷ Check ∷ Stairs ∷ Report ∷ Capacity ∷ Insert ∷ Edit ∷ Migrate ∷ Reroute ∷ Save ∷ Resume ∷ Scene ∷ Gen ∷ []

-- the form with this verb
abbrev pub form_named : List ℕ → Option Form
form_named verb = find (λ (form : Form). bytes_eq (verb_of form) verb) all_forms

-- the files of a run: a scene, a timetable where there is one, and commands where there are some
pub record Scenario : Type 0 where
  pub scene : List ℕ
  pub timetable : Option (List ℕ)
  pub commands : Option (List ℕ)

-- a scene and one file more
pub record SceneAnd : Type 0 where
  pub scene : List ℕ
  pub other : List ℕ

-- a scene, a list and proposals
pub record SceneAndTwo : Type 0 where
  pub scene : List ℕ
  pub list : List ℕ
  pub proposals : List ℕ

-- a scenario and one file more
pub record ScenarioAnd : Type 0 where
  pub scenario : Scenario
  pub other : List ℕ

-- how many lines of a scenario's run are wanted
pub record Saving : Type 0 where
  pub count : ℕ
  pub scenario : Scenario

-- a line, a window from one time to another, in tenths of a second, and a scenario
pub record Study : Type 0 where
  pub line : List ℕ
  pub from : ℕ
  pub to : ℕ
  pub scenario : Scenario

-- paths: a train, a window from one time to another, in tenths of a second, how many copies are to begin in it, and a scenario
pub record Paths : Type 0 where
  pub train : List ℕ
  pub from : ℕ
  pub to : ℕ
  pub count : ℕ
  pub scenario : Scenario

-- what the words behind the verb of a form spell
abbrev pub Values : Form → Type 0
Values Run = Scenario
Values Infra = List ℕ
Values Play = SceneAnd
Values Check = ScenarioAnd
Values Stairs = Scenario
Values Report = Scenario
Values Capacity = Study
Values Insert = Paths
Values Edit = SceneAnd
Values Migrate = List ℕ
Values Reroute = SceneAndTwo
Values Save = Saving
Values Resume = ScenarioAnd
Values Scene = ℕ
Values Gen = ℕ

-- the scenario that three words name, of which `-` stands for no file
abbrev pub scenario_of : List ℕ → List ℕ → List ℕ → Scenario
scenario_of scene timetable commands = record { scene = scene; timetable = named_file timetable; commands = named_file commands }

-- the scenario that words name: a word that is not there stands for no file, and so does `-`
abbrev pub scenario_named : List (List ℕ) → Option Scenario
scenario_named (scene ∷ []) = Some (record { scene = scene; timetable = None; commands = None })
scenario_named (scene ∷ timetable ∷ []) = Some (record { scene = scene; timetable = named_file timetable; commands = None })
scenario_named (scene ∷ timetable ∷ commands ∷ []) = Some (scenario_of scene timetable commands)
scenario_named words = None

-- the scenario and the file that words name, all of which are there
abbrev pub scenario_and_named : List (List ℕ) → Option ScenarioAnd
scenario_and_named (scene ∷ timetable ∷ commands ∷ other ∷ []) =
    Some (record { scenario = scenario_of scene timetable commands; other = other })
scenario_and_named words = None

-- the words spell the study
abbrev pub IsStudy : Study → List (List ℕ) → Type 0
IsStudy study (line ∷ from ∷ to ∷ words) = (study.line ≡ line) × IsLenientTime from study.from × IsLenientTime to study.to
    × (scenario_named words ≡ Some study.scenario)
IsStudy study words = ⊥

-- the word spells a number below 2^64 in decimal digits without leading zeros
pub record IsNumber (word : List ℕ) (n : ℕ) : Type 0 where
  pub fits : n < 2 ^ 64
  pub spelled : word ≡ decimal n

-- the word spells how many paths are asked for
pub record IsPathCount (word : List ℕ) (count : ℕ) : Type 0 where
  pub number : IsNumber word count
  pub some : 1 ≤ count
  pub few : count ≤ PATHS

-- the words ask for the paths
abbrev pub ArePaths : Paths → List (List ℕ) → Type 0
ArePaths paths (train ∷ from ∷ to ∷ count ∷ words) = (paths.train ≡ train) × IsLenientTime from paths.from
    × IsLenientTime to paths.to × IsPathCount count paths.count × (scenario_named words ≡ Some paths.scenario)
ArePaths paths words = ⊥

-- the words are one that spells the number
abbrev pub IsOneNumber : ℕ → List (List ℕ) → Type 0
IsOneNumber n (word ∷ []) = IsNumber word n
IsOneNumber n words = ⊥

-- the words ask for so many lines of the scenario, whose words are all there
abbrev pub IsSaving : Saving → List (List ℕ) → Type 0
IsSaving saving (count ∷ scene ∷ timetable ∷ commands ∷ []) = IsNumber count saving.count
    × (saving.scenario ≡ scenario_of scene timetable commands)
IsSaving saving words = ⊥

-- the words behind the verb of a form spell these values
abbrev pub Spells : (form : Form) → Values form → List (List ℕ) → Type 0
Spells Run scenario words = scenario_named words ≡ Some scenario
Spells Infra scene words = words ≡ scene ∷ []
Spells Play files words = words ≡ files.scene ∷ files.other ∷ []
Spells Check files words = scenario_and_named words ≡ Some files
Spells Stairs scenario words = scenario_named words ≡ Some scenario
Spells Report scenario words = scenario_named words ≡ Some scenario
Spells Capacity study words = IsStudy study words
Spells Insert paths words = ArePaths paths words
Spells Edit files words = words ≡ files.scene ∷ files.other ∷ []
Spells Migrate scene words = words ≡ scene ∷ []
Spells Reroute files words = words ≡ files.scene ∷ files.list ∷ files.proposals ∷ []
Spells Save saving words = IsSaving saving words
Spells Resume files words = scenario_and_named words ≡ Some files
Spells Scene number words = IsOneNumber number words
Spells Gen number words = IsOneNumber number words

-- the words ask for the form with these values
abbrev pub IsAsked : (form : Form) → Values form → List (List ℕ) → Type 0
IsAsked form values [] = ⊥
IsAsked form values (verb ∷ words) = (form_named verb ≡ Some form) × Spells form values words

-- the words behind the verb of a form spell nothing for it
abbrev pub Lacks : Form → List (List ℕ) → Type 0
Lacks form words = (values : Values form) → Spells form values words → ⊥

-- the files of a scenario, in the order in which they are read
abbrev pub scenario_files : Scenario → List File
scenario_files scenario =
    file_as role.Scene (Some scenario.scene) ∷ file_as role.Timetable scenario.timetable
    ∷ file_as role.Commands scenario.commands ∷ []

-- the files that a form reads, in this order; a made-up scene stands in no file
abbrev pub files_of : (form : Form) → Values form → List File
files_of Run scenario = scenario_files scenario
files_of Infra scene = file_as role.Scene (Some scene) ∷ []
files_of Play files = file_as role.Scene (Some files.scene) ∷ file_as role.List (Some files.other) ∷ []
files_of Check files = scenario_files files.scenario ++ file_as role.History (Some files.other) ∷ []
files_of Stairs scenario = scenario_files scenario
files_of Report scenario = scenario_files scenario
files_of Capacity study = scenario_files study.scenario
files_of Insert paths = scenario_files paths.scenario
files_of Edit files = file_as role.Scene (Some files.scene) ∷ file_as role.Edits (Some files.other) ∷ []
files_of Migrate scene = file_as role.Scene (Some scene) ∷ []
files_of Reroute files = file_as role.Scene (Some files.scene) ∷ file_as role.List (Some files.list)
    ∷ file_as role.Proposals (Some files.proposals) ∷ []
files_of Save saving = scenario_files saving.scenario
files_of Resume files = scenario_files files.scenario ++ file_as role.Snapshot (Some files.other) ∷ []
files_of Scene number = []
files_of Gen number = []

-- the scenario of the files with these names
abbrev pub scenario_in : Named → Scenario
scenario_in named = record {
  scene = named.scene.now;
  timetable = option_copied named.timetable;
  commands = option_copied named.commands;
}

-- the paths of a request for them
abbrev pub paths_in : PathRequest → Paths
paths_in request = record {
  train = request.train.now;
  from = request.from;
  to = request.to;
  count = request.count;
  scenario = scenario_in request.scenario;
}

-- the form of a request
abbrev pub form_in : Request → Form
form_in (request.Run scenario) = Run
form_in (request.Infra scene) = Infra
form_in (request.Play scene list) = Play
form_in (request.Check scenario history) = Check
form_in (request.Stairs scenario) = Stairs
form_in (request.Report scenario) = Report
form_in (request.Capacity line from to scenario) = Capacity
form_in (request.Insert paths) = Insert
form_in (request.Edit scene edits) = Edit
form_in (request.Migrate scene) = Migrate
form_in (request.Reroute scene list proposals) = Reroute
form_in (request.Save count scenario) = Save
form_in (request.Resume scenario snapshot) = Resume
form_in (request.Scene number) = Scene
form_in (request.Gen number) = Gen

-- its values
abbrev pub values_in : (asked : Request) → Values (form_in asked)
values_in (request.Run scenario) = scenario_in scenario
values_in (request.Infra scene) = scene.now
values_in (request.Play scene list) = record { scene = scene.now; other = list.now }
values_in (request.Check scenario history) = record { scenario = scenario_in scenario; other = history.now }
values_in (request.Stairs scenario) = scenario_in scenario
values_in (request.Report scenario) = scenario_in scenario
values_in (request.Capacity line from to scenario) = record { line = line.now; from = from; to = to; scenario = scenario_in scenario }
values_in (request.Insert paths) = paths_in paths
values_in (request.Edit scene edits) = record { scene = scene.now; other = edits.now }
values_in (request.Migrate scene) = scene.now
values_in (request.Reroute scene list proposals) = record { scene = scene.now; list = list.now; proposals = proposals.now }
values_in (request.Save count scenario) = record { count = count; scenario = scenario_in scenario }
values_in (request.Resume scenario snapshot) = record { scenario = scenario_in scenario; other = snapshot.now }
values_in (request.Scene number) = number
values_in (request.Gen number) = number

-- the files that a request reads, in this order: those of its form with its values
abbrev pub files_in : Request → List File
files_in asked = files_of (form_in asked) (values_in asked)
