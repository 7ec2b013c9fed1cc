-- Refusals.
use Rattle.std.specs.Prelude.{ℕ, Bool, true, false, Option, Some, None}
use Rattle.rail_base.specs.FirstRefusals.{IsFirstRefusal}
use Rattle.rail_base.specs.declared.refusals.Fault.{Fault}
use Rattle.rail_base.specs.declared.refusals.Fault.TheVariants.{Refused, OutOfMemory}
use Rattle.rail_base.specs.declared.refusals.Part.{Part}
use Rattle.rail_base.specs.declared.refusals.Part.TheVariants.{File}
use Rattle.rail_base.specs.declared.refusals.Refusal.{Refusal}
use Rattle.rail_base.specs.declared.refusals.Reason.{Reason}
use Rattle.rail_base.specs.declared.refusals.Reason.TheVariants.{NotToml, KeyMissing, WrongKind, KeyUnknown, BadName, Repeated, Unknown, Range, JointCrowded, PostPlace, RouteBroken, RouteRepeat, ItineraryBroken, NotPortal, TooLong, SelfBlocked, TooMany, TimetableForm, TimetableValue, InUse, UnknownPolicy, CommandForm, CommandName, CommandOrder, HistoryForm, LineEmpty, WindowEmpty, SnapshotForm, SnapshotOther, NoPath, EditForm, NothingToUndo, NothingToRedo, ListForm, ListName, ListPlaces, RerouteForm, RerouteName}

-- the number that a refusal's text shows
abbrev pub number_of : Reason → ℕ
number_of NotToml = 1
number_of KeyMissing = 2
number_of WrongKind = 3
number_of KeyUnknown = 4
number_of BadName = 5
number_of Repeated = 6
number_of Unknown = 7
number_of Range = 8
number_of JointCrowded = 9
number_of PostPlace = 10
number_of RouteBroken = 11
number_of RouteRepeat = 12
number_of ItineraryBroken = 13
number_of NotPortal = 14
number_of TooLong = 15
number_of SelfBlocked = 16
number_of TooMany = 17
number_of TimetableForm = 18
number_of TimetableValue = 19
number_of InUse = 20
number_of UnknownPolicy = 21
number_of CommandForm = 22
number_of CommandName = 23
number_of CommandOrder = 24
number_of HistoryForm = 25
number_of LineEmpty = 26
number_of WindowEmpty = 27
number_of SnapshotForm = 28
number_of SnapshotOther = 29
number_of NoPath = 30
number_of EditForm = 31
number_of NothingToUndo = 32
number_of NothingToRedo = 33
number_of ListForm = 34
number_of ListName = 35
number_of ListPlaces = 36
number_of RerouteForm = 37
number_of RerouteName = 38

-- the refusal in a fault
abbrev pub refusal_in : Fault → Option Refusal
refusal_in (Refused refusal) = Some refusal
refusal_in OutOfMemory = None

-- a fault answers the first refusal
abbrev pub AnswersFirst : Option Refusal → Fault → Type 0
AnswersFirst first fault = IsFirstRefusal first (refusal_in fault)

-- the part is a file, which is refused for its size
abbrev pub is_file : Part → Bool
is_file File = true
is_file part = false
