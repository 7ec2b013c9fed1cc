-- The scene of a root, from its parts.
use Rattle.std.proofs.Common.{◌≡◌, [], unwrap_or}
use Rattle.toml.specs.Data.{Data}
use Rattle.rail_scene.specs.SceneItems.{SceneItems}
use Rattle.rail_scene.specs.declared.keys.KeyName.TheVariants as word
use Rattle.rail_scene.specs.declared.reading.Header.{Header}
use Rattle.rail_scene.specs.declared.versions.Version.{Version}
use Rattle.rail_scene.specs.Keys.{key_of}
use Rattle.rail_scene.specs.Fields.{policy_at}
use Rattle.rail_scene.specs.Entries.{spelled_number}
use Rattle.rail_scene.specs.SpelledScenes.{scene_of, overlap_time_in}
use Rattle.rail_scene.specs.Order.{listed_items}

pub scene_is : (version : Version) (root : Data) (draft : SceneItems) (header : Header) → draft ≡ listed_items version root
    → header.release ≡ spelled_number (key_of word.Release) root → header.depth ≡ spelled_number (key_of word.Depth) root
    → header.policy ≡ unwrap_or (policy_at (key_of word.Policy) root) [] → header.overlap_time ≡ overlap_time_in version root
    → record { release = header.release; depth = header.depth; policy = header.policy; overlap_time = header.overlap_time; network = draft.network; kinds = draft.kinds; trains = draft.trains } ≡ scene_of version root
unfolding listed_items
scene_is version root draft header are r d p o = λ i. record { release = r i; depth = d i; policy = p i; overlap_time = o i; network = (are i).network; kinds = (are i).kinds; trains = (are i).trains }
