-- Networks: what stands in one, by name and by place.
use Rattle.std.specs.Prelude.{ℕ, Bool, false, ◌&&◌, List, [], ◌++◌, Option, None}
use Rattle.std.specs.List.{find}
use Rattle.std.specs.Option.{option_map_or}
use Rattle.rail_base.specs.NameForms.{same_name}
use Rattle.rail_track.specs.declared.section.Section.{Section}
use Rattle.rail_track.specs.declared.section.SectionKind.TheVariants.{Plain}
use Rattle.rail_routes.specs.declared.items.Post.{Post}
use Rattle.rail_routes.specs.declared.items.PostRole.TheVariants.{Board}
use Rattle.rail_routes.specs.declared.items.Turn.{Turn}
use Rattle.rail_routes.specs.declared.items.Route.{Route}

-- the six lists of a network, each in the order of the additions
pub record Net : Type 0 where
  pub sections : List Section
  pub portals : List Post
  pub signals : List Post
  pub boards : List Post
  pub turns : List Turn
  pub routes : List Route

-- the posts of all three roles, which share one name space
abbrev pub posts : Net → List Post
posts net = net.portals ++ net.signals ++ net.boards

-- the post has this name
abbrev pub is_post : List ℕ → Post → Bool
is_post name post = same_name name post.name

-- the post of this name
abbrev pub post_named : List ℕ → Net → Option Post
post_named name net = find (is_post name) (posts net)

-- the turn is from the one post to the other
abbrev pub is_turn : List ℕ → List ℕ → Turn → Bool
is_turn arriving leaving turn = same_name arriving turn.arriving && same_name leaving turn.leaving

-- the route has this name
abbrev pub is_route : List ℕ → Route → Bool
is_route name route = same_name name route.name

-- the post stands at the joint
abbrev pub stands_at : List ℕ → Post → Bool
stands_at joint post = same_name joint post.joint

-- the post has this section as its section ahead by name, as a signal has
abbrev pub guards : List ℕ → Post → Bool
guards section post = option_map_or (same_name section) post.ahead false

-- the post stands at the joint and has this section ahead
abbrev pub guards_at : List ℕ → List ℕ → Post → Bool
guards_at joint section post = stands_at joint post && guards section post

-- what stands for a section that the network doesn't have
abbrev pub no_section : Section
no_section = record { name = []; kind = Plain; length = 0; speed = 0; joints = [] }

-- what stands for a post that the network doesn't have
abbrev pub no_post : Post
no_post = record { name = []; role = Board; joint = []; ahead = None; setting = 0; watching = 0; approach = 0 }

-- what stands for a turn that the network doesn't have
abbrev pub no_turn : Turn
no_turn = record { arriving = []; leaving = []; time = 0 }

-- what stands for a route that the network doesn't have
abbrev pub no_route : Route
no_route = record { name = []; from = []; to = []; steps = []; overlap = [] }
