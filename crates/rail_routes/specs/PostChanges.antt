-- A network with a post more or less.
use Rattle.std.specs.Prelude.{◌≡◌, ℕ, ◌≤◌, List, [], ◌∷◌, ◌++◌, Option, length, insert, position}
use Rattle.std.specs.Option.{option_or}
use Rattle.rail_track.specs.Lists.{without}
use Rattle.rail_routes.specs.declared.items.Post.{Post}
use Rattle.rail_routes.specs.declared.items.PostRole.{PostRole}
use Rattle.rail_routes.specs.declared.items.PostRole.TheVariants.{Portal, Signal, Board}
use Rattle.rail_routes.specs.Net.{Net, is_post}

-- a post goes last in the list of this role
abbrev pub with_post_as : PostRole → Post → Net → Net
with_post_as Portal post net = record net { portals = net.portals ++ post ∷ [] }
with_post_as Signal post net = record net { signals = net.signals ++ post ∷ [] }
with_post_as Board post net = record net { boards = net.boards ++ post ∷ [] }

-- a post goes last in the list of its own role
abbrev pub with_post : Post → Net → Net
with_post post net = with_post_as post.role post net

-- a post is taken out of the list that has it
abbrev pub without_post : List ℕ → Net → Net
without_post name net = record net {
  portals = without (is_post name) net.portals;
  signals = without (is_post name) net.signals;
  boards = without (is_post name) net.boards;
}

-- the posts of this role, in order
abbrev pub posts_of : PostRole → Net → List Post
posts_of Portal net = net.portals
posts_of Signal net = net.signals
posts_of Board net = net.boards

-- the index of the post of this name in the list of its role
abbrev pub post_position : List ℕ → Net → Option ℕ
post_position name net =
    option_or (option_or (position (is_post name) net.portals) (position (is_post name) net.signals)) (position (is_post name) net.boards)

-- a post is put in at this index of the list of this role
abbrev pub with_post_at_as : PostRole → ℕ → Post → Net → Net
with_post_at_as Portal index post net = record net { portals = insert net.portals index post }
with_post_at_as Signal index post net = record net { signals = insert net.signals index post }
with_post_at_as Board index post net = record net { boards = insert net.boards index post }

-- a post is put in at this index of the list of its own role
abbrev pub with_post_at : ℕ → Post → Net → Net
with_post_at index post net = with_post_at_as post.role index post net

-- a post stood at the index in the list of its role: put in there again, it gives the whole network
pub record PostStoodAt (post : Post) (rest whole : Net) (index : ℕ) : Type 0 where
  pub within : index ≤ length (posts_of post.role rest)
  pub again : with_post_at index post rest ≡ whole
