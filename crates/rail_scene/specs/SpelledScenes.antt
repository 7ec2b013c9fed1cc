-- What the bytes of a scene file spell.
use Rattle.std.specs.Prelude.{ℕ, List, [], map, cond, Option, None, unwrap_or}
use Rattle.std.specs.Str.{is_utf8}
use Rattle.toml.specs.Data.{Data, table, Members, no_members}
use Rattle.toml.specs.Parse.{parse_document}
use Rattle.rail_scene.specs.declared.keys.KeyName.TheVariants as word
use Rattle.rail_scene.specs.declared.scene.Scene.{Scene}
use Rattle.rail_scene.specs.declared.versions.Version.{Version}
use Rattle.rail_scene.specs.declared.versions.Version.TheVariants.{One, Two}
use Rattle.rail_scene.specs.Keys.{key_of}
use Rattle.rail_scene.specs.Fields.{policy_at, elements_at, version_of}
use Rattle.rail_scene.specs.Entries.{spelled_number, section_of, portal_of, signal_of, board_of, turn_of, route_of, kind_of, train_of}

-- the table that a text in UTF-8 is by TOML
unfoldable pub document : List ℕ → Option Members
document bytes = cond (is_utf8 bytes) (parse_document bytes) None

-- the root of a scene file; bytes that are no TOML have an empty one
unfoldable pub root_of : List ℕ → Data
root_of bytes = table (unwrap_or (document bytes) no_members)

-- the overlap time of a root; the first version has none
abbrev pub overlap_time_in : Version → Data → ℕ
overlap_time_in One root = 0
overlap_time_in Two root = spelled_number (key_of word.OverlapTime) root

-- the scene of a root, by the version of the file: each list of tables in order
abbrev pub scene_of : Version → Data → Scene
scene_of version root = record {
  release = spelled_number (key_of word.Release) root;
  depth = spelled_number (key_of word.Depth) root;
  policy = unwrap_or (policy_at (key_of word.Policy) root) [];
  overlap_time = overlap_time_in version root;
  network = record {
    sections = map section_of (elements_at (key_of word.Section) root);
    portals = map portal_of (elements_at (key_of word.Portal) root);
    signals = map signal_of (elements_at (key_of word.Signal) root);
    boards = map board_of (elements_at (key_of word.Board) root);
    turns = map turn_of (elements_at (key_of word.Turn) root);
    routes = map (route_of version) (elements_at (key_of word.Route) root);
  };
  kinds = map kind_of (elements_at (key_of word.Kind) root);
  trains = map train_of (elements_at (key_of word.Train) root);
}

-- the scene that the bytes spell
unfoldable pub spelled_scene : List ℕ → Scene
spelled_scene bytes = let root = root_of bytes in scene_of (version_of root) root
