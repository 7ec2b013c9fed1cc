-- Which posts are accepted.
use Rattle.std.specs.Prelude.{ℕ, ◌+◌, Bool, true, false, not, ◌==◌, ◌&&◌, ◌||◌, List, [], ◌∷◌, Option, length, nat_le, is_some}
use Rattle.std.specs.List.{list_any}
use Rattle.std.specs.Option.{option_map_or}
use Rattle.rail_base.specs.Limits.{is_from_one, most, Posts, SettingTime, WatchingTime, ApproachTime}
use Rattle.rail_base.specs.declared.refusals.Reason.TheVariants.{TooMany, Range, Repeated, Unknown, PostPlace}
use Rattle.rail_track.specs.declared.section.NetFault.{NetFault}
use Rattle.rail_track.specs.declared.section.Section.{Section}
use Rattle.rail_track.specs.Joints.{is_named, sections_at, section_has}
use Rattle.rail_base.specs.FirstRefusals.{Test, first_failing}
use Rattle.rail_track.specs.NetFaults.{refused_where}
use Rattle.rail_routes.specs.declared.items.Post.{Post}
use Rattle.rail_routes.specs.declared.items.PostRole.{PostRole}
use Rattle.rail_routes.specs.declared.items.PostRole.TheVariants.{Portal, Signal, Board}
use Rattle.rail_routes.specs.Net.{Net, posts, is_post, stands_at, guards_at}

-- a signal names its section ahead and nothing else does, and the times of a board are 0
abbrev pub is_formed_as : PostRole → Post → Bool
is_formed_as Portal post = not (is_some post.ahead)
is_formed_as Signal post = is_some post.ahead
is_formed_as Board post = not (is_some post.ahead) && post.setting == 0 && post.watching == 0 && post.approach == 0

-- the post names a section ahead and has times as its own role asks
abbrev pub is_formed : Post → Bool
is_formed post = is_formed_as post.role post

-- the key of the setting time, behind which the two other times come; a board has none
abbrev pub time_key : PostRole → ℕ
time_key Portal = 3
time_key Signal = 4
time_key Board = 0

-- a post of the role has times of its own
abbrev pub has_times : PostRole → Bool
has_times Portal = true
has_times Signal = true
has_times Board = false

-- the section ahead has the joint of the post
abbrev pub has_joint_ahead : List Section → Post → Bool
has_joint_ahead sections post = option_map_or (λ ahead. section_has sections ahead post.joint) post.ahead false

-- a signal at the joint has the same section ahead
abbrev pub is_guarded : List Post → Post → Bool
is_guarded signals post = option_map_or (λ ahead. list_any (guards_at post.joint ahead) signals) post.ahead false

-- a portal stands at a joint of one section, a signal at a joint of two, of which one is ahead, and a
-- board at a joint of one or two
abbrev pub stands_as : PostRole → List Section → Post → Bool
stands_as Portal sections post = sections_at sections post.joint == 1
stands_as Signal sections post = sections_at sections post.joint == 2 && has_joint_ahead sections post
stands_as Board sections post = sections_at sections post.joint == 1 || sections_at sections post.joint == 2

-- the post stands where its own role may
abbrev pub stands_well : List Section → Post → Bool
stands_well sections post = stands_as post.role sections post

-- a joint has one portal or board at most, and a section at a joint one signal at most
abbrev pub is_taken_as : PostRole → Net → Post → Bool
is_taken_as Portal net post = list_any (stands_at post.joint) net.portals || list_any (stands_at post.joint) net.boards
is_taken_as Signal net post = is_guarded net.signals post
is_taken_as Board net post = list_any (stands_at post.joint) net.portals || list_any (stands_at post.joint) net.boards

-- the place of the post is taken, as its own role asks
abbrev pub is_taken : Net → Post → Bool
is_taken net post = is_taken_as post.role net post

-- the section ahead is none of the sections
abbrev pub is_astray : List Section → Post → Bool
is_astray sections post = option_map_or (λ ahead. not (list_any (is_named ahead) sections)) post.ahead false

-- the tests of a new post, in their order
abbrev pub post_tests : Net → Post → List (Test NetFault)
post_tests net post =
    refused_where TooMany 0 (nat_le (most Posts) (length net.portals + length net.signals + length net.boards))
    ∷ refused_where Range (time_key post.role) (has_times post.role && not (is_from_one (most SettingTime) post.setting))
    ∷ refused_where Range (time_key post.role + 1) (has_times post.role && not (nat_le post.watching (most WatchingTime)))
    ∷ refused_where Range (time_key post.role + 2) (has_times post.role && not (nat_le post.approach (most ApproachTime)))
    ∷ refused_where Repeated 1 (list_any (is_post post.name) (posts net))
    ∷ refused_where Unknown 3 (is_astray net.sections post)
    ∷ refused_where PostPlace 0 (not (stands_well net.sections post) || is_taken net post)
    ∷ []

-- why a new post is refused
abbrev pub post_refusal : Net → Post → Option NetFault
post_refusal net post = first_failing (post_tests net post)
