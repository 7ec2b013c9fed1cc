-- How a network is stored: its six lists, and how often a route claims a section and a turn or route
-- names a post.
use Rattle.std.specs.Prelude.{◌≡◌, ℕ, List, [], ◌∷◌, count_by}
use Rattle.std.specs.List.{sum_by}
use Rattle.rail_base.specs.NameForms.{same_name}
use Rattle.rail_track.specs.KeyCounts.{times}
use Rattle.rail_routes.specs.declared.items.Turn.{Turn}
use Rattle.rail_routes.specs.declared.items.Route.{Route}
use Rattle.rail_routes.specs.declared.network.Network.TheInside.{Inside}
use Rattle.rail_routes.specs.Net.{Net}
use Rattle.rail_routes.specs.SoundNetworks.{IsSoundNetwork}
use Rattle.rail_routes.specs.Uses.{sections_of}

-- the six lists of the network
abbrev pub lists_of : Inside → Net
lists_of a = record {
  sections = a.track;
  portals = a.portals;
  signals = a.signals;
  boards = a.boards;
  turns = a.turns;
  routes = a.routes;
}

-- how often the routes claim a section
abbrev pub claims_of : List Route → List ℕ → ℕ
claims_of routes name = sum_by (λ route. count_by (same_name name) (sections_of route)) routes

-- how often the turns name a post
abbrev pub turn_uses : List Turn → List ℕ → ℕ
turn_uses turns name = sum_by (λ (turn : Turn). count_by (same_name name) (turn.arriving ∷ turn.leaving ∷ [])) turns

-- how often the routes begin or end at a post
abbrev pub route_uses : List Route → List ℕ → ℕ
route_uses routes name = sum_by (λ (route : Route). count_by (same_name name) (route.from ∷ route.to ∷ [])) routes

-- the network is sound, and each use of a section or post by a route or turn is counted
pub record IsNetworkInside (a : Inside) : Type 0 where
  pub sound : IsSoundNetwork (lists_of a)
  pub claimed : (name : List ℕ) → times same_name a.claimed name ≡ claims_of a.routes name
  pub turned : (name : List ℕ) → times same_name a.turned name ≡ turn_uses a.turns name
  pub routed : (name : List ℕ) → times same_name a.routed name ≡ route_uses a.routes name
