-- The limits of what is accepted.
use Rattle.std.specs.Prelude.{ℕ, Bool, ◌&&◌, nat_le}

-- what is limited: numbers of things, sizes of files and texts, lengths and speeds, times
pub data Limit : Type 0 where
  Sections Posts Turns Routes RouteSections OverlapSections Kinds Trains ItineraryRoutes Depth Policies Commands Edits FreshTrains FreshLines : Limit
  FileBytes HistoryBytes NameBytes HourDigits : Limit
  SectionLength TrainLength Speed : Limit
  InputTime SettingTime WatchingTime ApproachTime TurnTime ReleaseTime OverlapTime StartSupplement StopSupplement : Limit

-- the greatest of each that is accepted
abbrev pub most : Limit → ℕ
most Sections = 512  -- of a scene
most Posts = 512  -- portals, signals and boards of a scene together
most Turns = 512  -- of a scene
most Routes = 1_024  -- of a scene
most RouteSections = 32  -- sections of a route
most OverlapSections = 8  -- sections of the overlap of a route
most Kinds = 128  -- train kinds of a scene
most Trains = 256  -- of a scene
most ItineraryRoutes = 128  -- routes of an itinerary
most Depth = 2  -- free legs that the analysis may make
most Policies = 16  -- of a deck
most Commands = 1_024  -- of a run
most Edits = 4_096  -- that an editor keeps
most FreshTrains = 32_768  -- trains of a fresh list in a history file: moves of a plant
most FreshLines = 32_768  -- fresh lists of a history file: moves of a plant
most FileBytes = 1_048_576  -- of each file but a history
most HistoryBytes = 16_777_216  -- of a history that is read
most NameBytes = 16  -- of a name
most HourDigits = 12  -- of a time as text
most SectionLength = 100_000  -- metres
most TrainLength = 10_000  -- metres
most Speed = 500  -- km/h, of a section and of a train
most InputTime = 8_640_000  -- tenths of a second, of a time in a file: ten days
most SettingTime = 6_000  -- tenths of a second, of a portal or signal
most WatchingTime = 6_000  -- tenths of a second, of a portal or signal
most ApproachTime = 36_000  -- tenths of a second, of a portal or signal
most TurnTime = 864_000  -- tenths of a second
most ReleaseTime = 6_000  -- tenths of a second
most OverlapTime = 6_000  -- tenths of a second, after an arrival
most StartSupplement = 6_000  -- tenths of a second, of a train kind
most StopSupplement = 6_000  -- tenths of a second, of a train kind

-- a number from 1 to a limit
abbrev pub is_from_one : ℕ → ℕ → Bool
is_from_one limit n = nat_le 1 n && nat_le n limit
