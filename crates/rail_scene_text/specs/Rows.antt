-- A worked scene, and tables from which a key is left out.
use Rattle.std.specs.Prelude.{ℕ, cond, List, [], ◌∷◌, codes, Some, None}
use Rattle.toml.specs.Data.{Data, table, Members, no_members, member, same_key}
use Rattle.rail_routes.specs.declared.items.Post.{Post}
use Rattle.rail_routes.specs.declared.items.PostRole.TheVariants as role
use Rattle.rail_routes.specs.declared.items.Route.{Route}
use Rattle.rail_track.specs.declared.section.SectionKind.TheVariants.{Plain}
use Rattle.rail_scene.specs.declared.scene.Scene.{Scene}
use Rattle.rail_scene.specs.declared.scene.SceneTrain.{SceneTrain}
use Rattle.rail_scene_text.specs.Tables.{scene_members}

-- the members without a key
abbrev pub members_without : List ℕ → Members → Members
members_without key no_members = no_members
members_without key (member other value members) =
    cond (same_key key other) members (member other value (members_without key members))

-- the table without a key
abbrev pub without : List ℕ → Data → Data
without key (table members) = table (members_without key members)
without key value = value

-- a signal between two sections
abbrev pub signal : Post
signal = record { name = codes "S"; role = role.Signal; joint = codes "b"; ahead = Some (codes "X2"); setting = 10; watching = 10; approach = 100 }

-- a route to the signal, with the section behind it as its overlap
abbrev pub route : Route
route = record {
  name = codes "r1";
  from = codes "West";
  to = codes "S";
  steps = record { section = codes "X1"; from = codes "a"; to = codes "b" } ∷ [];
  overlap = record { section = codes "X2"; from = codes "b"; to = codes "c" } ∷ [];
}

-- two sections with a portal at each end, a signal between them and a route over each, and a depth and an overlap time that
-- are not the default
abbrev pub scene : Scene
scene = record {
  release = 20;
  depth = 2;
  policy = codes "priority";
  overlap_time = 50;
  network = record {
    sections =
        record { name = codes "X1"; kind = Plain; length = 1000; speed = 90; joints = codes "a" ∷ codes "b" ∷ [] } ∷
        record { name = codes "X2"; kind = Plain; length = 1000; speed = 90; joints = codes "b" ∷ codes "c" ∷ [] } ∷ [];
    portals =
        record { name = codes "West"; role = role.Portal; joint = codes "a"; ahead = None; setting = 10; watching = 10; approach = 100 } ∷
        record { name = codes "East"; role = role.Portal; joint = codes "c"; ahead = None; setting = 10; watching = 10; approach = 100 } ∷ [];
    signals = signal ∷ [];
    boards = [];
    turns = [];
    routes =
        route ∷
        record { name = codes "r2"; from = codes "S"; to = codes "East"; steps = record { section = codes "X2"; from = codes "b"; to = codes "c" } ∷ []; overlap = [] } ∷ [];
  };
  kinds = record { name = codes "R"; length = 90; speed = 90; start = 100; stop = 50 } ∷ [];
  trains = [];
}

-- a train with a priority that is not the default
abbrev pub train : SceneTrain
train = record { name = codes "A"; kind = codes "R"; entry = 1200; priority = 3; routes = codes "r1" ∷ codes "r2" ∷ [] }

-- the table of the scene
abbrev pub root : Data
root = table (scene_members scene)
