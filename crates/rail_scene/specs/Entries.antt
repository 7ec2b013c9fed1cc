-- The items that the tables of a scene file spell.
use Rattle.std.specs.Prelude.{ℕ, List, [], ◌∷◌, Some, None, unwrap_or}
use Rattle.toml.specs.Data.{Data}
use Rattle.rail_base.specs.declared.plant.TrainKind.{TrainKind}
use Rattle.rail_track.specs.declared.section.Section.{Section}
use Rattle.rail_track.specs.declared.section.SectionKind.TheVariants.{Plain}
use Rattle.rail_routes.specs.declared.items.Post.{Post}
use Rattle.rail_routes.specs.declared.items.PostRole.TheVariants as role
use Rattle.rail_routes.specs.declared.items.Turn.{Turn}
use Rattle.rail_routes.specs.declared.items.Route.{Route}
use Rattle.rail_routes.specs.declared.items.Step.{Step}
use Rattle.rail_scene.specs.declared.keys.Key.{Key}
use Rattle.rail_scene.specs.declared.keys.KeyName.TheVariants as word
use Rattle.rail_scene.specs.declared.scene.SceneTrain.{SceneTrain}
use Rattle.rail_scene.specs.declared.versions.Version.{Version}
use Rattle.rail_scene.specs.declared.versions.Version.TheVariants.{One, Two}
use Rattle.rail_scene.specs.Keys.{key_of}
use Rattle.rail_scene.specs.Fields.{name_at, number_at, kind_at, time_at, elements_at, names_in}

-- the name at a key
abbrev pub spelled_name : Key → Data → List ℕ
spelled_name key node = unwrap_or (name_at key node) []

-- the number at a key
abbrev pub spelled_number : Key → Data → ℕ
spelled_number key node = unwrap_or (number_at key node) 0

-- the names at a key
abbrev pub spelled_names : Key → Data → List (List ℕ)
spelled_names key node = names_in (elements_at key node)

-- the section of a table
abbrev pub section_of : Data → Section
section_of node = record {
  name = spelled_name (key_of word.Name) node;
  kind = unwrap_or (kind_at (key_of word.SectionKind) node) Plain;
  length = spelled_number (key_of word.SectionLength) node;
  speed = spelled_number (key_of word.Speed) node;
  joints = spelled_names (key_of word.Joints) node;
}

-- the portal of a table
abbrev pub portal_of : Data → Post
portal_of node = record {
  name = spelled_name (key_of word.Name) node;
  role = role.Portal;
  joint = spelled_name (key_of word.Joint) node;
  ahead = None;
  setting = spelled_number (key_of word.Setting) node;
  watching = spelled_number (key_of word.Watching) node;
  approach = spelled_number (key_of word.Approach) node;
}

-- the signal of a table: as a portal, but for its role and its section ahead
abbrev pub signal_of : Data → Post
signal_of node = record (portal_of node) { role = role.Signal; ahead = Some (spelled_name (key_of word.Ahead) node) }

-- the board of a table, which has no times
abbrev pub board_of : Data → Post
board_of node = record (portal_of node) { role = role.Board; setting = 0; watching = 0; approach = 0 }

-- the turn of a table
abbrev pub turn_of : Data → Turn
turn_of node = record {
  arriving = spelled_name (key_of word.Arriving) node;
  leaving = spelled_name (key_of word.Leaving) node;
  time = spelled_number (key_of word.Time) node;
}

-- the steps from a joint on, over sections and joints in turn
abbrev pub steps_from : List ℕ → List (List ℕ) → List Step
steps_from joint [] = []
steps_from joint (section ∷ []) = []
steps_from joint (section ∷ next ∷ names) = record { section = section; from = joint; to = next } ∷ steps_from next names

-- the steps of a path of joints and sections in turn
abbrev pub steps_of : List (List ℕ) → List Step
steps_of [] = []
steps_of (joint ∷ names) = steps_from joint names

-- the steps that go on where others end, over sections and joints in turn; behind no step there is none
abbrev pub steps_behind : List Step → List (List ℕ) → List Step
steps_behind [] names = []
steps_behind (step ∷ []) names = steps_from step.to names
steps_behind (step ∷ next ∷ steps) names = steps_behind (next ∷ steps) names

-- the path of a table
abbrev pub path_in : Data → List Step
path_in node = steps_of (spelled_names (key_of word.Path) node)

-- the overlap of a table, behind its path; the first version has none
abbrev pub overlap_in : Version → Data → List Step
overlap_in One node = []
overlap_in Two node = steps_behind (path_in node) (spelled_names (key_of word.Overlap) node)

-- the route of a table, by the version of its file
abbrev pub route_of : Version → Data → Route
route_of version node = record {
  name = spelled_name (key_of word.Name) node;
  from = spelled_name (key_of word.From) node;
  to = spelled_name (key_of word.To) node;
  steps = path_in node;
  overlap = overlap_in version node;
}

-- the train kind of a table
abbrev pub kind_of : Data → TrainKind
kind_of node = record {
  name = spelled_name (key_of word.Name) node;
  length = spelled_number (key_of word.TrainLength) node;
  speed = spelled_number (key_of word.Speed) node;
  start = spelled_number (key_of word.Start) node;
  stop = spelled_number (key_of word.Stop) node;
}

-- the train of a table
abbrev pub train_of : Data → SceneTrain
train_of node = record {
  name = spelled_name (key_of word.Name) node;
  kind = spelled_name (key_of word.TrainKind) node;
  entry = unwrap_or (time_at (key_of word.Entry) node) 0;
  priority = spelled_number (key_of word.Priority) node;
  routes = spelled_names (key_of word.Routes) node;
}
