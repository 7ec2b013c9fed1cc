-- The keys of the tables of a scene file.
use Rattle.std.specs.Prelude.{ℕ, Bool, true, false, List, [], ◌∷◌, ◌++◌, map, codes, Option, Some, None}
use Rattle.rail_base.specs.Limits.{most, SectionLength, TrainLength, Speed, SettingTime, WatchingTime, ApproachTime, TurnTime, ReleaseTime, OverlapTime, StartSupplement, StopSupplement, Depth}
use Rattle.rail_base.specs.declared.refusals.Part.{Part}
use Rattle.rail_base.specs.declared.refusals.Part.TheVariants as part
use Rattle.rail_scene.specs.declared.keys.KeyForm.{KeyForm}
use Rattle.rail_scene.specs.declared.keys.KeyForm.TheVariants as form
use Rattle.rail_scene.specs.declared.keys.Key.{Key}
use Rattle.rail_scene.specs.declared.keys.KeyName.{KeyName}
use Rattle.rail_scene.specs.declared.keys.KeyName.TheVariants as word
use Rattle.rail_scene.specs.declared.keys.ListPart.{ListPart}
use Rattle.rail_scene.specs.declared.keys.ListPart.TheVariants.{Section, Portal, Signal, Board, Turn, Route, Kind, Train}
use Rattle.rail_scene.specs.declared.versions.Version.{Version}
use Rattle.rail_scene.specs.declared.versions.Version.TheVariants.{One, Two}
use Rattle.rail_scene.specs.Versions.{newest, version_number}

-- a whole number from the one to the other, and the first where the key is absent
abbrev pub whole : ℕ → ℕ → KeyForm
whole low high = form.Whole (record { low = low; high = high; default = low })

-- the table of the keys of all versions: how a key is written, what its value has to be, and whether it has to be there;
-- lengths in metres, speeds in km/h, times in tenths of a second
abbrev pub key_row : KeyName → List ℕ × KeyForm × Bool
key_row word.Version = (codes "version", form.Whole (record { low = 1; high = version_number newest; default = version_number newest }), true)
key_row word.Release = (codes "release", whole 0 (most ReleaseTime), true)
key_row word.Depth = (codes "depth", form.Whole (record { low = 0; high = most Depth; default = 1 }), false)
key_row word.Policy = (codes "policy", form.Policy, false)
key_row word.Section = (codes "section", form.Tables, false)
key_row word.Portal = (codes "portal", form.Tables, false)
key_row word.Signal = (codes "signal", form.Tables, false)
key_row word.Board = (codes "board", form.Tables, false)
key_row word.Turn = (codes "turn", form.Tables, false)
key_row word.Route = (codes "route", form.Tables, false)
key_row word.Kind = (codes "kind", form.Tables, false)
key_row word.Train = (codes "train", form.Tables, false)
key_row word.OverlapTime = (codes "overlap_time", whole 0 (most OverlapTime), false)
key_row word.Name = (codes "name", form.Name, true)
key_row word.SectionKind = (codes "kind", form.Choice, true)
key_row word.SectionLength = (codes "length", whole 1 (most SectionLength), true)
key_row word.Speed = (codes "speed", whole 1 (most Speed), true)
key_row word.Joints = (codes "joints", form.Joints, true)
key_row word.Joint = (codes "joint", form.Name, true)
key_row word.Setting = (codes "setting", whole 1 (most SettingTime), true)
key_row word.Watching = (codes "watching", whole 0 (most WatchingTime), true)
key_row word.Approach = (codes "approach", whole 0 (most ApproachTime), true)
key_row word.Ahead = (codes "ahead", form.Name, true)
key_row word.Arriving = (codes "arriving", form.Name, true)
key_row word.Leaving = (codes "leaving", form.Name, true)
key_row word.Time = (codes "time", whole 0 (most TurnTime), true)
key_row word.From = (codes "from", form.Name, true)
key_row word.To = (codes "to", form.Name, true)
key_row word.Path = (codes "path", form.Path, true)
key_row word.Overlap = (codes "overlap", form.Overlap, false)
key_row word.TrainLength = (codes "length", whole 1 (most TrainLength), true)
key_row word.Start = (codes "start", whole 0 (most StartSupplement), true)
key_row word.Stop = (codes "stop", whole 0 (most StopSupplement), true)
key_row word.TrainKind = (codes "kind", form.Name, true)
key_row word.Entry = (codes "entry", form.Time, true)
key_row word.Priority = (codes "priority", whole 0 255, false)
key_row word.Routes = (codes "routes", form.Itinerary, true)

-- the text of a key
abbrev pub text_of : KeyName → List ℕ
text_of name = (key_row name).0

-- a key by its row of the table
abbrev pub key_of : KeyName → Key
key_of name = record { name = name; form = (key_row name).1; required = (key_row name).2 }

-- the lists in the order in which they are read
abbrev pub list_parts : List ListPart
list_parts = Section ∷ Portal ∷ Signal ∷ Board ∷ Turn ∷ Route ∷ Kind ∷ Train ∷ []

-- the key of the root that has the list
abbrev pub list_key : ListPart → Key
list_key Section = key_of word.Section
list_key Portal = key_of word.Portal
list_key Signal = key_of word.Signal
list_key Board = key_of word.Board
list_key Turn = key_of word.Turn
list_key Route = key_of word.Route
list_key Kind = key_of word.Kind
list_key Train = key_of word.Train

-- the keys that the root has in each version
abbrev pub first_root_keys : List Key
first_root_keys = key_of word.Version ∷ key_of word.Release ∷ key_of word.Depth ∷ key_of word.Policy ∷ map list_key list_parts

-- the keys of the root by the version of the file
abbrev pub root_keys : Version → List Key
root_keys One = first_root_keys
root_keys Two = first_root_keys ++ key_of word.OverlapTime ∷ []

-- the keys of a section in each version
abbrev pub section_keys : List Key
section_keys = map key_of (word.Name ∷ word.SectionKind ∷ word.SectionLength ∷ word.Speed ∷ word.Joints ∷ [])

-- the keys of a portal in each version
abbrev pub portal_keys : List Key
portal_keys = map key_of (word.Name ∷ word.Joint ∷ word.Setting ∷ word.Watching ∷ word.Approach ∷ [])

-- the keys of a signal in each version
abbrev pub signal_keys : List Key
signal_keys = map key_of (word.Name ∷ word.Joint ∷ word.Ahead ∷ word.Setting ∷ word.Watching ∷ word.Approach ∷ [])

-- the keys of a board in each version
abbrev pub board_keys : List Key
board_keys = map key_of (word.Name ∷ word.Joint ∷ [])

-- the keys of a turn in each version
abbrev pub turn_keys : List Key
turn_keys = map key_of (word.Arriving ∷ word.Leaving ∷ word.Time ∷ [])

-- the keys that a route has in each version
abbrev pub first_route_keys : List Key
first_route_keys = map key_of (word.Name ∷ word.From ∷ word.To ∷ word.Path ∷ [])

-- the keys of a route by the version of the file
abbrev pub route_keys : Version → List Key
route_keys One = first_route_keys
route_keys Two = first_route_keys ++ key_of word.Overlap ∷ []

-- the keys of a train kind in each version
abbrev pub kind_keys : List Key
kind_keys = map key_of (word.Name ∷ word.TrainLength ∷ word.Speed ∷ word.Start ∷ word.Stop ∷ [])

-- the keys of a train in each version
abbrev pub train_keys : List Key
train_keys = map key_of (word.Name ∷ word.TrainKind ∷ word.Entry ∷ word.Priority ∷ word.Routes ∷ [])

-- the keys of a table in the list, by the version of the file
abbrev pub keys_of : ListPart → Version → List Key
keys_of Section version = section_keys
keys_of Portal version = portal_keys
keys_of Signal version = signal_keys
keys_of Board version = board_keys
keys_of Turn version = turn_keys
keys_of Route version = route_keys version
keys_of Kind version = kind_keys
keys_of Train version = train_keys

-- the part of a refusal in the list
abbrev pub part_of : ListPart → Part
part_of Section = part.Section
part_of Portal = part.Portal
part_of Signal = part.Signal
part_of Board = part.Board
part_of Turn = part.Turn
part_of Route = part.Route
part_of Kind = part.Kind
part_of Train = part.Train

-- the keys of a table of the part, by the version of the file: of the root, or of an item
abbrev pub keys_in : Part → Version → List Key
keys_in part.Root version = root_keys version
keys_in part.Section version = keys_of Section version
keys_in part.Portal version = keys_of Portal version
keys_in part.Signal version = keys_of Signal version
keys_in part.Board version = keys_of Board version
keys_in part.Turn version = keys_of Turn version
keys_in part.Route version = keys_of Route version
keys_in part.Kind version = keys_of Kind version
keys_in part.Train version = keys_of Train version
keys_in _ version = []

-- the list of a part that is one
abbrev pub list_in : Part → Option ListPart
list_in part.Section = Some Section
list_in part.Portal = Some Portal
list_in part.Signal = Some Signal
list_in part.Board = Some Board
list_in part.Turn = Some Turn
list_in part.Route = Some Route
list_in part.Kind = Some Kind
list_in part.Train = Some Train
list_in _ = None
