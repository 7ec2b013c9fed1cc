-- The line plant: a single line with stations of two tracks each, counted from 1 at the west end, with fewer than nine of them.
use Rattle.std.specs.Prelude.{ℕ, ◌+◌, ◌-◌, ◌==◌, if◌then◌else◌, List, [], ◌∷◌, ◌++◌, codes, Some, None}
use Rattle.std.specs.List.{flat_map, range_with_len}
use Rattle.rail_track.specs.declared.section.Section.{Section}
use Rattle.rail_track.specs.declared.section.SectionKind.TheVariants.{Plain, Points}
use Rattle.rail_routes.specs.declared.items.Post.{Post}
use Rattle.rail_routes.specs.declared.items.PostRole.TheVariants.{Portal, Signal}
use Rattle.rail_routes.specs.declared.items.Step.{Step}
use Rattle.rail_routes.specs.declared.items.Route.{Route}
use Rattle.rail_routes.specs.Net.{Net}

-- the letters with the digit of a station, as in `X3`
abbrev pub at_station : List ℕ → ℕ → List ℕ
at_station letters k = letters ++ (48 + k) ∷ []

-- the numbers of the stations, from the west
abbrev pub stations_of : ℕ → List ℕ
stations_of count = range_with_len 1 count

-- plain track between two joints
abbrev pub plain : List ℕ → ℕ → ℕ → List ℕ → List ℕ → Section
plain name length speed from to = record { name = name; kind = Plain; length = length; speed = speed; joints = from ∷ to ∷ [] }

-- points from a tip to two legs
abbrev pub points : List ℕ → List ℕ → List ℕ → List ℕ → Section
points name tip left right = record { name = name; kind = Points; length = 60; speed = 60; joints = tip ∷ left ∷ right ∷ [] }

-- the joint at the east end of the line behind a station: that of the next one, or the east end of all
abbrev pub joint_behind : ℕ → ℕ → List ℕ
joint_behind count k = if k == count then codes "z" else at_station (codes "a") (k + 1)

-- the sections of a station: its western points, its two tracks, its eastern points, and the line behind it
abbrev pub station_sections : ℕ → ℕ → List Section
station_sections count k =
    points (at_station (codes "P") k) (at_station (codes "a") k) (at_station (codes "b") k) (at_station (codes "c") k)
    ∷ plain (at_station (codes "A") k) 600 80 (at_station (codes "b") k) (at_station (codes "d") k)
    ∷ plain (at_station (codes "B") k) 600 80 (at_station (codes "c") k) (at_station (codes "e") k)
    ∷ points (at_station (codes "Q") k) (at_station (codes "f") k) (at_station (codes "d") k) (at_station (codes "e") k)
    ∷ plain (at_station (codes "X") k) 3_000 100 (at_station (codes "f") k) (joint_behind count k)
    ∷ []

-- the sections of the line: the line before the first station, and those of the stations
abbrev pub line_sections : ℕ → List Section
line_sections count =
    plain (codes "X0") 3_000 100 (codes "w") (codes "a1") ∷ flat_map (station_sections count) (stations_of count)

-- a portal, with the times that all posts of the line have
abbrev pub portal : List ℕ → List ℕ → Post
portal name joint =
    record { name = name; role = Portal; joint = joint; ahead = None; setting = 60; watching = 50; approach = 300 }

-- a signal with its section ahead
abbrev pub signal : List ℕ → List ℕ → List ℕ → Post
signal name joint ahead = record (portal name joint) { role = Signal; ahead = Some ahead }

-- a signal of a station, by its letters
abbrev pub station_signal : ℕ → List ℕ → List ℕ → List ℕ → Post
station_signal k name joint ahead = signal (at_station name k) (at_station joint k) (at_station ahead k)

-- the signals of a station: H and G at its western and eastern end, E and F behind its tracks for trains to the east, U and
-- V for those to the west
abbrev pub station_signals : ℕ → List Post
station_signals k =
    station_signal k (codes "H") (codes "a") (codes "P")
    ∷ station_signal k (codes "E") (codes "d") (codes "Q")
    ∷ station_signal k (codes "F") (codes "e") (codes "Q")
    ∷ station_signal k (codes "G") (codes "f") (codes "Q")
    ∷ station_signal k (codes "U") (codes "b") (codes "P")
    ∷ station_signal k (codes "V") (codes "c") (codes "P")
    ∷ []

-- the portals of the line
abbrev pub line_portals : List Post
line_portals = portal (codes "West") (codes "w") ∷ portal (codes "East") (codes "z") ∷ []

-- the signals of the line
abbrev pub line_signals : ℕ → List Post
line_signals count = flat_map station_signals (stations_of count)

-- a route over one section
abbrev pub route_over : List ℕ → List ℕ → List ℕ → Step → Route
route_over name from to step = record { name = name; from = from; to = to; steps = step ∷ []; overlap = [] }

-- a route over two sections, which meet at a joint
abbrev pub route_through : List ℕ → List ℕ → List ℕ → Step → List ℕ → List ℕ → Route
route_through name from to step section end =
    record { name = name; from = from; to = to; steps = step ∷ record { section = section; from = step.to; to = end } ∷ []; overlap = [] }

-- a step over a section
abbrev pub over : List ℕ → List ℕ → List ℕ → Step
over section from to = record { section = section; from = from; to = to }

-- the post where the line behind a station ends: that of the next one, or the portal
abbrev pub post_behind : ℕ → ℕ → List ℕ
post_behind count k = if k == count then codes "East" else at_station (codes "H") (k + 1)

-- the post where the line before a station ends: that of the one before, or the portal
abbrev pub post_before : ℕ → List ℕ
post_before k = if k == 1 then codes "West" else at_station (codes "G") (k - 1)

-- the joint at the west end of the line before a station: that of the one before, or the west end of all
abbrev pub joint_before : ℕ → List ℕ
joint_before k = if k == 1 then codes "w" else at_station (codes "f") (k - 1)

-- a track of a station by its letters: in the names of routes, of its section, of its joints at the west and the east, and
-- of its signals for trains to the east and to the west
pub record TrackLetters : Type 0 where
  pub track : List ℕ
  pub section : List ℕ
  pub west : List ℕ
  pub east : List ℕ
  pub eastbound : List ℕ
  pub westbound : List ℕ

-- track `a`
abbrev pub track_a : TrackLetters
track_a = record { track = codes "a"; section = codes "A"; west = codes "b"; east = codes "d"; eastbound = codes "E"; westbound = codes "U" }

-- track `b`
abbrev pub track_b : TrackLetters
track_b = record { track = codes "b"; section = codes "B"; west = codes "c"; east = codes "e"; eastbound = codes "F"; westbound = codes "V" }

-- the name of a route of a station over one of its tracks: the way, the station, and the track
abbrev pub route_name : List ℕ → ℕ → TrackLetters → List ℕ
route_name way k letters = at_station way k ++ letters.track

-- the way of a train to the east into a station
abbrev pub east_in : ℕ → TrackLetters → Route
east_in k letters =
    route_through (route_name (codes "ein") k letters) (at_station (codes "H") k) (at_station letters.eastbound k)
    (over (at_station (codes "P") k) (at_station (codes "a") k) (at_station letters.west k))
    (at_station letters.section k) (at_station letters.east k)

-- the way of a train to the east out of a station
abbrev pub east_out : ℕ → ℕ → TrackLetters → Route
east_out count k letters =
    route_through (route_name (codes "eout") k letters) (at_station letters.eastbound k) (post_behind count k)
    (over (at_station (codes "Q") k) (at_station letters.east k) (at_station (codes "f") k))
    (at_station (codes "X") k) (joint_behind count k)

-- the way of a train to the west into a station
abbrev pub west_in : ℕ → TrackLetters → Route
west_in k letters =
    route_through (route_name (codes "win") k letters) (at_station (codes "G") k) (at_station letters.westbound k)
    (over (at_station (codes "Q") k) (at_station (codes "f") k) (at_station letters.east k))
    (at_station letters.section k) (at_station letters.west k)

-- the way of a train to the west out of a station
abbrev pub west_out : ℕ → TrackLetters → Route
west_out k letters =
    route_through (route_name (codes "wout") k letters) (at_station letters.westbound k) (post_before k)
    (over (at_station (codes "P") k) (at_station letters.west k) (at_station (codes "a") k))
    (at_station (codes "X") (k - 1)) (joint_before k)

-- the routes of a station to the east
abbrev pub eastbound_routes : ℕ → ℕ → List Route
eastbound_routes count k = east_in k track_a ∷ east_in k track_b ∷ east_out count k track_a ∷ east_out count k track_b ∷ []

-- the routes of a station to the west
abbrev pub westbound_routes : ℕ → List Route
westbound_routes k = west_in k track_a ∷ west_in k track_b ∷ west_out k track_a ∷ west_out k track_b ∷ []

-- the routes of a station
abbrev pub station_routes : ℕ → ℕ → List Route
station_routes count k = eastbound_routes count k ++ westbound_routes k

-- the routes of the line: from each end to the first station there, and those of the stations
abbrev pub line_routes : ℕ → List Route
line_routes count =
    route_over (codes "estart") (codes "West") (codes "H1") (over (codes "X0") (codes "w") (codes "a1"))
    ∷ route_over (codes "wstart") (codes "East") (at_station (codes "G") count)
    (over (at_station (codes "X") count) (codes "z") (at_station (codes "f") count))
    ∷ flat_map (station_routes count) (stations_of count)

-- the line plant with so many stations
abbrev pub line_network : ℕ → Net
line_network count = record {
  sections = line_sections count;
  portals = line_portals;
  signals = line_signals count;
  boards = [];
  turns = [];
  routes = line_routes count;
}
