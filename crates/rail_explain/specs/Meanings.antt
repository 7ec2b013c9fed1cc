-- What a reason means, in words, and what was expected.
use Rattle.std.specs.Prelude.{ℕ, ◌==◌, cond, nat_lt, List, [], ◌∷◌, ◌++◌, codes, decimal, Option, Some}
use Rattle.rail_base.specs.declared.refusals.Part.{Part}
use Rattle.rail_base.specs.declared.refusals.Part.TheVariants as part
use Rattle.rail_base.specs.declared.refusals.Reason.{Reason}
use Rattle.rail_base.specs.declared.refusals.Reason.TheVariants.{NotToml, KeyMissing, WrongKind, KeyUnknown, BadName, Repeated, Unknown, Range, JointCrowded, PostPlace, RouteBroken, RouteRepeat, ItineraryBroken, NotPortal, TooLong, SelfBlocked, TooMany, TimetableForm, TimetableValue, InUse, UnknownPolicy, CommandForm, CommandName, CommandOrder, HistoryForm, LineEmpty, WindowEmpty, SnapshotForm, SnapshotOther, NoPath, EditForm, NothingToUndo, NothingToRedo, ListForm, ListName, ListPlaces, RerouteForm, RerouteName}
use Rattle.rail_base.specs.declared.refusals.Refusal.{Refusal}
use Rattle.rail_scene.specs.declared.keys.Bounds.{Bounds}
use Rattle.rail_scene.specs.declared.keys.KeyForm.{KeyForm}
use Rattle.rail_scene.specs.declared.keys.KeyForm.TheVariants as form
use Rattle.rail_scene.specs.declared.keys.Key.{Key}
use Rattle.rail_scene.specs.declared.keys.KeyName.{KeyName}
use Rattle.rail_scene.specs.declared.keys.KeyName.TheVariants as word
use Rattle.rail_explain.specs.Places.{keys_text}

-- what is not there, where no key is told
abbrev pub unknown_item : Part → List ℕ
unknown_item part.Word = codes " names nothing of the scene: LINE takes sections, TRAIN a train"
unknown_item _ = codes " names what is not there"

-- what stands already
abbrev pub repeated : Part → List ℕ
repeated part.Turn = codes " leads between two posts that have a turn already"
repeated part.Portal = codes " has a name that a portal, signal or board before it has"
repeated part.Signal = codes " has a name that a portal, signal or board before it has"
repeated part.Board = codes " has a name that a portal, signal or board before it has"
repeated part.Word = codes ", LINE, names a section twice"
repeated part.Line = codes " gives a name, or a turn, that stands already"
repeated _ = codes " has a name that stands before it"

-- where posts and turns have to be
abbrev pub post_place : Part → List ℕ
post_place part.Portal = codes " must stand at a joint of one section, which has no portal and no board yet"
post_place part.Signal = codes " must stand at a joint of two sections, one of them ahead of it, with no other signal that looks there"
post_place part.Board = codes " must stand at a joint of one or two sections, which has no portal and no board yet"
post_place part.Turn = codes " must arrive at no portal, leave over a signal, and have two posts"
post_place _ = codes " does not stand as it has to"

-- how many there may be
abbrev pub too_many : Part → List ℕ
too_many part.File = codes " is larger than a file may be: 1,048,576 bytes, and a history or a snapshot 16,777,216"
too_many part.Section = codes " is one too many: there may be 512 sections"
too_many part.Portal = codes " is one too many: there may be 512 portals, signals and boards together"
too_many part.Signal = codes " is one too many: there may be 512 portals, signals and boards together"
too_many part.Board = codes " is one too many: there may be 512 portals, signals and boards together"
too_many part.Turn = codes " is one too many: there may be 512 turns"
too_many part.Route = codes " is one too many: there may be 1,024 routes"
too_many part.Kind = codes " is one too many: there may be 128 kinds"
too_many part.Train = codes " is one too many: there may be 256 trains"
too_many part.Line = codes " is one too many: there may be 1,024 commands, 4,096 edits kept, and 32,768 trains in a list"
too_many _ = codes " is more than there may be"

-- what a line of a snapshot has to be; the first one tells that it is one
abbrev pub snapshot_form : ℕ → List ℕ
snapshot_form item =
    cond (item == 1) (codes " must be rail-snapshot 1, with which a snapshot begins")
    (codes " is no line of a history, or has no line feed at its end")

-- which word asks for paths that are not there: the train whose path is copied, or the time from which on they are wanted
abbrev pub no_path : ℕ → List ℕ
no_path item =
    cond (item == 2) (codes ", TRAIN, has no whole path in the run to be copied: it was not admitted, or stands somewhere at the end")
    (codes ", FROM: no path is free that begins there or later, and before TO")

-- what a reason means where no key is told with it
abbrev pub reason_text : Reason → Refusal → List ℕ
reason_text NotToml refusal = codes " is no TOML in UTF-8"
reason_text KeyMissing refusal = codes " is missing"
reason_text WrongKind refusal = codes " has a value of another kind"
reason_text KeyUnknown refusal = codes " has a key that is none of its keys"
reason_text BadName refusal = codes " must be a name: 1 to 16 of A-Z a-z 0-9 _ -"
reason_text Repeated refusal = repeated refusal.part
reason_text Unknown refusal = unknown_item refusal.part
reason_text Range refusal = codes " is out of its range"
reason_text JointCrowded refusal = codes " is in two sections already, stands twice in this one, or carries a portal"
reason_text PostPlace refusal = post_place refusal.part
reason_text RouteBroken refusal = codes " does not lead on: no way of its section joins these joints, or the post there is another one or looks back"
reason_text RouteRepeat refusal = codes " is over a section that stood in the route before"
reason_text ItineraryBroken refusal = codes ": the next route does not begin at the signal where this one ends, and no turn leads there"
reason_text NotPortal refusal = cond (refusal.step == 0) (codes ": the way must begin at a portal") (codes ": the way must end at a portal")
reason_text TooLong refusal = codes ": the train is longer than the sections of the route on which it is to stand"
reason_text SelfBlocked refusal = codes ": the train would stand on a section that its next move needs"
reason_text TooMany refusal = too_many refusal.part
reason_text TimetableForm refusal = codes " must have the five fields train,place,arrival,departure,dwell; record 1 is that header"
reason_text TimetableValue refusal = codes " has no such train or place, a second call, no time as 01:30:00, a pass where it turns, or a departure at the end"
reason_text InUse refusal = codes " takes out what is still in use"
reason_text UnknownPolicy refusal = codes " must be priority, timetable, fcfs or rotating"
reason_text CommandForm refusal = codes " must be a time as 01:30:00 and close, open, stop, go, cancel, priority, policy or retire with its words"
reason_text CommandName refusal = codes " names nothing of the scene: close and open take a section, stop, go, cancel and priority a train"
reason_text CommandOrder refusal = codes " has a time before that of the command above it"
reason_text HistoryForm refusal = codes " is no line of a history, or has no line feed at its end"
reason_text LineEmpty refusal = codes ", LINE, must name one section or more"
reason_text WindowEmpty refusal = codes ", FROM, must be before TO"
reason_text EditForm refusal = codes " must be add or remove with the words of an item, undo or redo"
reason_text NothingToUndo refusal = codes " has no edit left to undo"
reason_text NothingToRedo refusal = codes " has no undone edit left to make again"
reason_text ListForm refusal = codes " must be at TRAIN PLACE, or behind all of these move TRAIN"
reason_text ListName refusal = codes " names a train that is not in the scene"
reason_text ListPlaces refusal = codes ": two trains would stand on one section at these places"
reason_text SnapshotForm refusal = snapshot_form refusal.item
reason_text SnapshotOther refusal = codes " is no line that a run of this scene, timetable and commands could have there"
reason_text NoPath refusal = no_path refusal.item
reason_text RerouteForm refusal = codes " does not say how a train is rerouted"
reason_text RerouteName refusal = codes " names a train or a route that is not in the scene"

-- the least and the greatest number that a key may have
abbrev pub bounds_text : Bounds → List ℕ
bounds_text bounds = codes " must be" ++ 32 ∷ decimal bounds.low ++ cond (nat_lt bounds.low bounds.high) (codes " to" ++ 32 ∷ decimal bounds.high) []

-- the range of a key
abbrev pub range_text : KeyForm → List ℕ
range_text (form.Whole bounds) = bounds_text bounds
range_text form.Choice = codes " must be plain, points, crossing or slip"
range_text form.Time = codes " must be a time as 06:00:00, of at most 240:00:00"
range_text form.Joints = codes " must have 2 names for plain track, 3 for points, 4 for a crossing or a slip"
range_text form.Path = codes " must have 3 to 65 names, joints and sections in turn"
range_text form.Overlap = codes " must have at most 16 names, sections and joints in turn, in an even number"
range_text form.Itinerary = codes " must have 1 to 128 names"
range_text _ = codes " is out of its range"

-- the kind of value that a key has to have
abbrev pub kind_text : KeyForm → List ℕ
kind_text (form.Whole bounds) = codes " must be a whole number"
kind_text form.Joints = codes " must be a list of strings"
kind_text form.Path = codes " must be a list of strings"
kind_text form.Overlap = codes " must be a list of strings"
kind_text form.Itinerary = codes " must be a list of strings"
kind_text form.Tables = codes " must be a list of tables, as [[section]] begins one"
kind_text _ = codes " must be a string"

-- what a name at a key refers to, where it refers to nothing
abbrev pub unknown_text : KeyName → List ℕ
unknown_text word.Ahead = codes " names no section"
unknown_text word.Path = codes " names a section that is not there"
unknown_text word.Overlap = codes " names a section that is not there"
unknown_text word.Arriving = codes " names no portal, signal or board"
unknown_text word.Leaving = codes " names no portal, signal or board"
unknown_text word.From = codes " names no portal, signal or board"
unknown_text word.To = codes " names no portal, signal or board"
unknown_text word.TrainKind = codes " names no kind"
unknown_text word.Routes = codes " names a route that is not there"
unknown_text _ = codes " names what is not there"

-- what a reason means at a key, where one is known, and else by itself
abbrev pub meaning_text : Reason → Option Key → Refusal → List ℕ
meaning_text Range (Some key) refusal = range_text key.form
meaning_text WrongKind (Some key) refusal = kind_text key.form
meaning_text Unknown (Some key) refusal = unknown_text key.name
meaning_text KeyUnknown key refusal = reason_text KeyUnknown refusal ++ keys_text refusal.part
meaning_text reason key refusal = reason_text reason refusal
