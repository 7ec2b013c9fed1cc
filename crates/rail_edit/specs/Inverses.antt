-- What is kept of an edit, and how it is taken back.
use Rattle.std.specs.Prelude.{◌≤◌, IsSome, unwrap_or, length, insert}
use Rattle.std.specs.List.{find}
use Rattle.rail_track.specs.Joints.{is_named, section_named}
use Rattle.rail_track.specs.Lists.{without}
use Rattle.rail_routes.specs.Net.{Net, is_turn, is_route, no_post, no_route, no_section, no_turn, post_named}
use Rattle.rail_routes.specs.PostChanges.{posts_of, with_post_at, without_post}
use Rattle.rail_edit.specs.declared.edit.Edit.{Edit}
use Rattle.rail_edit.specs.declared.edit.Edit.TheVariants.{AddSection, AddPost, AddTurn, AddRoute, RemoveSection, RemovePost, RemoveTurn, RemoveRoute}
use Rattle.rail_edit.specs.declared.edit.Kept.{Kept}
use Rattle.rail_edit.specs.declared.edit.Kept.TheVariants.{AddedSection, AddedPost, AddedTurn, AddedRoute, RemovedSection, RemovedPost, RemovedTurn, RemovedRoute}

-- the network before an edit, from the one after it and what is kept
abbrev pub taken_back : Kept → Net → Net
taken_back (AddedSection name) net = record net { sections = without (is_named name) net.sections }
taken_back (AddedPost name) net = without_post name net
taken_back (AddedTurn arriving leaving) net = record net { turns = without (is_turn arriving leaving) net.turns }
taken_back (AddedRoute name) net = record net { routes = without (is_route name) net.routes }
taken_back (RemovedSection index section) net = record net { sections = insert net.sections index section }
taken_back (RemovedPost index post) net = with_post_at index post net
taken_back (RemovedTurn index turn) net = record net { turns = insert net.turns index turn }
taken_back (RemovedRoute index route) net = record net { routes = insert net.routes index route }

-- what is kept fits the network after the edit: what was added is there, and what was removed has its place
abbrev pub Fits : Kept → Net → Type 0
Fits (AddedSection name) net = IsSome (section_named name net.sections)
Fits (AddedPost name) net = IsSome (post_named name net)
Fits (AddedTurn arriving leaving) net = IsSome (find (is_turn arriving leaving) net.turns)
Fits (AddedRoute name) net = IsSome (find (is_route name) net.routes)
Fits (RemovedSection index section) net = index ≤ length net.sections
Fits (RemovedPost index post) net = index ≤ length (posts_of post.role net)
Fits (RemovedTurn index turn) net = index ≤ length net.turns
Fits (RemovedRoute index route) net = index ≤ length net.routes

-- the edit, from the network after it and what is kept
abbrev pub edit_of : Kept → Net → Edit
edit_of (AddedSection name) net = AddSection (unwrap_or (section_named name net.sections) no_section)
edit_of (AddedPost name) net = AddPost (unwrap_or (post_named name net) no_post)
edit_of (AddedTurn arriving leaving) net = AddTurn (unwrap_or (find (is_turn arriving leaving) net.turns) no_turn)
edit_of (AddedRoute name) net = AddRoute (unwrap_or (find (is_route name) net.routes) no_route)
edit_of (RemovedSection index section) net = RemoveSection section.name
edit_of (RemovedPost index post) net = RemovePost post.name
edit_of (RemovedTurn index turn) net = RemoveTurn turn.arriving turn.leaving
edit_of (RemovedRoute index route) net = RemoveRoute route.name
