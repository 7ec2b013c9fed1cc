-- The tables that are written for a scene, as TOML sees them. The keys of a table stand in the order of their bytes.
use Rattle.std.specs.Prelude.{ℕ, false, pos, List, [], ◌∷◌, ◌++◌, map, codes, Option, Some, None}
use Rattle.std.specs.List.{flat_map}
use Rattle.std.specs.Ordering.{nat_cmp, match_ordering}
use Rattle.std.specs.Cmp.Lexicographic.{slice_cmp}
use Rattle.toml.specs.Data.{Data, string, integer, array, table, Members, no_members, member}
use Rattle.toml.specs.Text.{IsDocumentText}
use Rattle.toml.specs.View.{items_of}
use Rattle.rail_base.specs.Clock.{time_text}
use Rattle.rail_base.specs.declared.plant.TrainKind.{TrainKind}
use Rattle.rail_track.specs.declared.section.Section.{Section}
use Rattle.rail_track.specs.declared.section.SectionKind.{SectionKind}
use Rattle.rail_track.specs.declared.section.SectionKind.TheVariants.{Plain, Points, Crossing, Slip}
use Rattle.rail_routes.specs.declared.items.Post.{Post}
use Rattle.rail_routes.specs.declared.items.PostRole.{PostRole}
use Rattle.rail_routes.specs.declared.items.PostRole.TheVariants.{Portal, Signal, Board}
use Rattle.rail_routes.specs.declared.items.Route.{Route}
use Rattle.rail_routes.specs.declared.items.Step.{Step}
use Rattle.rail_routes.specs.declared.items.Turn.{Turn}
use Rattle.rail_routes.specs.Net.{Net}
use Rattle.rail_scene.specs.declared.keys.KeyName.TheVariants as word
use Rattle.rail_scene.specs.declared.scene.Scene.{Scene}
use Rattle.rail_scene.specs.declared.scene.SceneTrain.{SceneTrain}
use Rattle.rail_scene.specs.declared.versions.Version.TheVariants.{Two}
use Rattle.rail_scene.specs.Keys.{text_of}
use Rattle.rail_scene.specs.Versions.{version_number}

-- the members with a value at a key, which keep the order of the keys' bytes
abbrev pub put : List ℕ → Data → Members → Members
put key value no_members = member key value no_members
put key value (member other held members) =
    match_ordering (slice_cmp nat_cmp key other)
    (member key value (member other held members))
    (member other value members)
    (member other held (put key value members))

-- a number that is not negative
abbrev pub number : ℕ → Data
number n = integer (pos n)

-- the array of what stands for the items
abbrev pub array_of : {X : Type 0} → (X → Data) → List X → Data
array_of data_of items = array (items_of (map data_of items))

-- the word of a section kind
abbrev pub kind_word : SectionKind → List ℕ
kind_word Plain = codes "plain"
kind_word Points = codes "points"
kind_word Crossing = codes "crossing"
kind_word Slip = codes "slip"

-- the table of a section
abbrev pub section_data : Section → Data
section_data section = table (
    member (text_of word.Joints) (array_of string section.joints) (
    member (text_of word.SectionKind) (string (kind_word section.kind)) (
    member (text_of word.SectionLength) (number section.length) (
    member (text_of word.Name) (string section.name) (
    member (text_of word.Speed) (number section.speed) no_members)))))

-- the members of a board's table
abbrev pub board_members : Post → Members
board_members post = member (text_of word.Joint) (string post.joint) (member (text_of word.Name) (string post.name) no_members)

-- the members of a portal's table
abbrev pub portal_members : Post → Members
portal_members post =
    member (text_of word.Approach) (number post.approach) (
    member (text_of word.Joint) (string post.joint) (
    member (text_of word.Name) (string post.name) (
    member (text_of word.Setting) (number post.setting) (
    member (text_of word.Watching) (number post.watching) no_members))))

-- the members that a post of the role has beside its section ahead
abbrev pub post_members : PostRole → Post → Members
post_members Portal post = portal_members post
post_members Signal post = portal_members post
post_members Board post = board_members post

-- the members with the section ahead, where there is one
abbrev pub with_ahead : Option (List ℕ) → Members → Members
with_ahead None members = members
with_ahead (Some ahead) members = put (text_of word.Ahead) (string ahead) members

-- the table of a post
abbrev pub post_data : Post → Data
post_data post = table (with_ahead post.ahead (post_members post.role post))

-- the table of a turn
abbrev pub turn_data : Turn → Data
turn_data turn = table (
    member (text_of word.Arriving) (string turn.arriving) (
    member (text_of word.Leaving) (string turn.leaving) (
    member (text_of word.Time) (number turn.time) no_members)))

-- the joint where the steps begin
abbrev pub first_joint : List Step → List (List ℕ)
first_joint [] = []
first_joint (step ∷ steps) = step.from ∷ []

-- the sections and joints of the steps in turn
abbrev pub overlap_of : List Step → List (List ℕ)
overlap_of steps = flat_map (λ (step : Step). step.section ∷ step.to ∷ []) steps

-- the same behind the joint where they begin
abbrev pub path_of : List Step → List (List ℕ)
path_of steps = first_joint steps ++ overlap_of steps

-- the table of a route
abbrev pub route_data : Route → Data
route_data route = table (
    member (text_of word.From) (string route.from) (
    member (text_of word.Name) (string route.name) (
    member (text_of word.Overlap) (array_of string (overlap_of route.overlap)) (
    member (text_of word.Path) (array_of string (path_of route.steps)) (
    member (text_of word.To) (string route.to) no_members)))))

-- the table of a train kind
abbrev pub kind_data : TrainKind → Data
kind_data kind = table (
    member (text_of word.TrainLength) (number kind.length) (
    member (text_of word.Name) (string kind.name) (
    member (text_of word.Speed) (number kind.speed) (
    member (text_of word.Start) (number kind.start) (
    member (text_of word.Stop) (number kind.stop) no_members)))))

-- the table of a train
abbrev pub train_data : SceneTrain → Data
train_data train = table (
    member (text_of word.Entry) (string (time_text train.entry)) (
    member (text_of word.TrainKind) (string train.kind) (
    member (text_of word.Name) (string train.name) (
    member (text_of word.Priority) (number train.priority) (
    member (text_of word.Routes) (array_of string train.routes) no_members)))))

-- the members of the root that are of the network
abbrev pub network_members : Net → Members
network_members network =
    member (text_of word.Board) (array_of post_data network.boards) (
    member (text_of word.Portal) (array_of post_data network.portals) (
    member (text_of word.Route) (array_of route_data network.routes) (
    member (text_of word.Section) (array_of section_data network.sections) (
    member (text_of word.Signal) (array_of post_data network.signals) (
    member (text_of word.Turn) (array_of turn_data network.turns) no_members)))))

-- the members of the root
abbrev pub scene_members : Scene → Members
scene_members scene =
    member (text_of word.Board) (array_of post_data scene.network.boards) (
    member (text_of word.Depth) (number scene.depth) (
    member (text_of word.Kind) (array_of kind_data scene.kinds) (
    member (text_of word.OverlapTime) (number scene.overlap_time) (
    member (text_of word.Policy) (string scene.policy) (
    member (text_of word.Portal) (array_of post_data scene.network.portals) (
    member (text_of word.Release) (number scene.release) (
    member (text_of word.Route) (array_of route_data scene.network.routes) (
    member (text_of word.Section) (array_of section_data scene.network.sections) (
    member (text_of word.Signal) (array_of post_data scene.network.signals) (
    member (text_of word.Train) (array_of train_data scene.trains) (
    member (text_of word.Turn) (array_of turn_data scene.network.turns) (
    member (text_of word.Version) (number (version_number Two)) no_members))))))))))))

-- the text is the TOML document of the scene's keys and tables, as the library lays it out
abbrev pub IsSceneText : Scene → List ℕ → Type 0
IsSceneText scene text = IsDocumentText false (scene_members scene) text
