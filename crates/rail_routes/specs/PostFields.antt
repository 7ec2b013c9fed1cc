-- How the posts of one role are stored: the posts, and the number of them at each joint.
use Rattle.std.specs.Prelude.{◌≡◌, ℕ, Bool, ◌&&◌, List, count_by}
use Rattle.rail_base.specs.NameForms.{same_name}
use Rattle.rail_track.specs.KeyCounts.{times}
use Rattle.rail_routes.specs.declared.post_list.PostList.TheInside.{Inside}
use Rattle.rail_routes.specs.Net.{stands_at, guards_at}

-- two pairs of names are the same where both names are
abbrev pub same_pair : List ℕ × List ℕ → List ℕ × List ℕ → Bool
same_pair x y = same_name x.0 y.0 && same_name x.1 y.1

-- each post is counted at its joint, and there with its section ahead
pub record IsPostListInside (a : Inside) : Type 0 where
  pub counted : (joint : List ℕ) → times same_name a.at joint ≡ count_by (stands_at joint) a.posts
  pub guarded : (joint ahead : List ℕ) → times same_pair a.guards (joint, ahead) ≡ count_by (guards_at joint ahead) a.posts
