-- The status of a command, as a number and as text.
use Rattle.std.specs.Prelude.{ℕ, List, [], ◌∷◌, ◌++◌, codes, decimal}
use Rattle.rail_base.specs.Refusals.{number_of}
use Rattle.rail_base.specs.declared.refusals.Refusal.{Refusal}
use Rattle.rail_base.specs.declared.refusals.Reason.{Reason}
use Rattle.rail_base.specs.declared.refusals.Reason.TheVariants.{NotToml, KeyMissing, WrongKind, KeyUnknown, BadName, Repeated, Unknown, Range, JointCrowded, PostPlace, RouteBroken, RouteRepeat, ItineraryBroken, NotPortal, TooLong, SelfBlocked, TooMany, TimetableForm, TimetableValue, InUse, UnknownPolicy, CommandForm, CommandName, CommandOrder, HistoryForm, LineEmpty, WindowEmpty, SnapshotForm, SnapshotOther, NoPath, EditForm, NothingToUndo, NothingToRedo, ListForm, ListName, ListPlaces, RerouteForm, RerouteName}
use Rattle.rail_base.specs.declared.refusals.Part.{Part}
use Rattle.rail_base.specs.declared.refusals.Part.TheVariants.{Bytes, Root, Section, Portal, Signal, Board, Turn, Route, Kind, Train, Row, Line, Word, File}
use Rattle.rail_rules.specs.Texts.{behind}
use Rattle.rail_forms.specs.declared.status.Status.{Status}
use Rattle.rail_forms.specs.declared.status.Status.TheVariants.{Done, Usage, Refused, ReadFault, WriteFault, OutOfMemory, CheckedNo}

-- the exit status
abbrev pub exit_of : Status → ℕ
exit_of Done = 0
exit_of Usage = 1
exit_of (Refused refusal) = 2
exit_of ReadFault = 3
exit_of WriteFault = 4
exit_of OutOfMemory = 5
exit_of (CheckedNo line law) = 6

-- the word for a reason
abbrev pub reason_text : Reason → List ℕ
reason_text NotToml = codes "NotToml"
reason_text KeyMissing = codes "KeyMissing"
reason_text WrongKind = codes "WrongKind"
reason_text KeyUnknown = codes "KeyUnknown"
reason_text BadName = codes "BadName"
reason_text Repeated = codes "Repeated"
reason_text Unknown = codes "Unknown"
reason_text Range = codes "Range"
reason_text JointCrowded = codes "JointCrowded"
reason_text PostPlace = codes "PostPlace"
reason_text RouteBroken = codes "RouteBroken"
reason_text RouteRepeat = codes "RouteRepeat"
reason_text ItineraryBroken = codes "ItineraryBroken"
reason_text NotPortal = codes "NotPortal"
reason_text TooLong = codes "TooLong"
reason_text SelfBlocked = codes "SelfBlocked"
reason_text TooMany = codes "TooMany"
reason_text TimetableForm = codes "TimetableForm"
reason_text TimetableValue = codes "TimetableValue"
reason_text InUse = codes "InUse"
reason_text UnknownPolicy = codes "UnknownPolicy"
reason_text CommandForm = codes "CommandForm"
reason_text CommandName = codes "CommandName"
reason_text CommandOrder = codes "CommandOrder"
reason_text HistoryForm = codes "HistoryForm"
reason_text LineEmpty = codes "LineEmpty"
reason_text WindowEmpty = codes "WindowEmpty"
reason_text SnapshotForm = codes "SnapshotForm"
reason_text SnapshotOther = codes "SnapshotOther"
reason_text NoPath = codes "NoPath"
reason_text EditForm = codes "EditForm"
reason_text NothingToUndo = codes "NothingToUndo"
reason_text NothingToRedo = codes "NothingToRedo"
reason_text ListForm = codes "ListForm"
reason_text ListName = codes "ListName"
reason_text ListPlaces = codes "ListPlaces"
reason_text RerouteForm = codes "RerouteForm"
reason_text RerouteName = codes "RerouteName"

-- the word for a part of the input
abbrev pub part_text : Part → List ℕ
part_text Bytes = codes "bytes"
part_text Root = codes "root"
part_text Section = codes "section"
part_text Portal = codes "portal"
part_text Signal = codes "signal"
part_text Board = codes "board"
part_text Turn = codes "turn"
part_text Route = codes "route"
part_text Kind = codes "kind"
part_text Train = codes "train"
part_text Row = codes "row"
part_text Line = codes "line"
part_text Word = codes "word"
part_text File = codes "file"

-- a refusal is told by its number and reason, and where it lies
abbrev pub refusal_text : Refusal → List ℕ
refusal_text refusal =
    codes "refused" ++ behind (decimal (number_of refusal.reason) ∷ reason_text refusal.reason ∷ part_text refusal.part
    ∷ decimal refusal.item ∷ decimal refusal.step ∷ [])

-- the text of a status
abbrev pub status_text : Status → List ℕ
status_text Done = []
status_text Usage = codes "usage"
status_text (Refused refusal) = refusal_text refusal
status_text ReadFault = codes "read fault"
status_text WriteFault = codes "write fault"
status_text OutOfMemory = codes "out of memory"
status_text (CheckedNo line law) = codes "checked no" ++ behind (decimal line ∷ decimal law ∷ [])
