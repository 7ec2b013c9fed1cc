-- Sound networks: each post, turn and route keeps its rule.
use Rattle.std.specs.Prelude.{ℕ, Bool, true, false, not, ◌&&◌, ◌||◌, List, [], ◌∷◌, ◌++◌, Option, Some, length, nat_le, IsTrue}
use Rattle.std.specs.List.{list_any, list_all}
use Rattle.rail_base.specs.NameForms.{same_name}
use Rattle.rail_base.specs.Limits.{is_from_one, most, SettingTime, WatchingTime, ApproachTime, TurnTime, RouteSections, OverlapSections}
use Rattle.rail_track.specs.declared.section.Section.{Section}
use Rattle.rail_base.specs.Lists.{are_distinct}
use Rattle.rail_routes.specs.declared.items.Post.{Post}
use Rattle.rail_routes.specs.declared.items.PostRole.{PostRole}
use Rattle.rail_routes.specs.declared.items.PostRole.TheVariants.{Portal, Signal, Board}
use Rattle.rail_routes.specs.declared.items.Step.{Step}
use Rattle.rail_routes.specs.declared.items.Turn.{Turn}
use Rattle.rail_routes.specs.declared.items.Route.{Route}
use Rattle.rail_routes.specs.Net.{Net, posts, is_post, post_named}
use Rattle.rail_routes.specs.PostRules.{is_formed, has_times, stands_well}
use Rattle.rail_routes.specs.TurnRules.{turns_well}
use Rattle.rail_routes.specs.RouteRules.{begins, leads_on, leads_from, is_beyond}
use Rattle.rail_routes.specs.DistinctNetworks.{IsDistinctNetwork}

-- the roles are the same
abbrev pub same_role : PostRole → PostRole → Bool
same_role Portal Portal = true
same_role Signal Signal = true
same_role Board Board = true
same_role role other = false

-- the times of a portal or signal are in range
abbrev pub is_timed : Post → Bool
is_timed post =
    not (has_times post.role)
    || (is_from_one (most SettingTime) post.setting && nat_le post.watching (most WatchingTime)
    && nat_le post.approach (most ApproachTime))

-- a post of the role is formed as the role asks, has its times in range, and stands where it may
abbrev pub is_sound_post : PostRole → List Section → Post → Bool
is_sound_post role sections post = same_role role post.role && is_formed post && is_timed post && stands_well sections post

-- the time of the turn is in range, its arriving post is there, and it leads as turns may
abbrev pub is_sound_turn : Net → Turn → Bool
is_sound_turn net turn = nat_le turn.time (most TurnTime) && list_any (is_post turn.arriving) (posts net) && turns_well net turn

-- the steps run over one section
abbrev pub have_one_section : Step → Step → Bool
have_one_section step other = same_name step.section other.section

-- each step leads on from the joint where the one before ended, and the last one to the post
abbrev pub lead_to : List Section → Post → List ℕ → List Step → Bool
lead_to sections end joint [] = true
lead_to sections end joint (step ∷ rest) = leads_on sections end joint step rest && lead_to sections end step.to rest

-- each step leads on from the joint where the one before ended
abbrev pub lead_on : List Section → List ℕ → List Step → Bool
lead_on sections joint [] = true
lead_on sections joint (step ∷ rest) = leads_from sections joint step && lead_on sections step.to rest

-- the steps lead from the section ahead of the one post to the other
abbrev pub is_sound_path : List Section → Post → Post → List Step → Bool
is_sound_path sections begin end steps = begins begin sections steps && lead_to sections end begin.joint steps

-- the overlap leads on from the post, and there is none behind a portal
abbrev pub is_sound_overlap : List Section → Post → List Step → Bool
is_sound_overlap sections end overlap = not (is_beyond end.role overlap) && lead_on sections end.joint overlap

-- both posts are there, the steps lead from the one to the other, and the overlap on from there
abbrev pub lead_between : List Section → Option Post → Option Post → List Step → List Step → Bool
lead_between sections (Some begin) (Some end) steps overlap =
    is_sound_path sections begin end steps && is_sound_overlap sections end overlap
lead_between sections begin end steps overlap = false

-- path and overlap of the route have few enough steps, all over different sections, and lead from its first post to its
-- last, and on from there
abbrev pub is_sound_route : Net → Route → Bool
is_sound_route net route =
    is_from_one (most RouteSections) (length route.steps) && nat_le (length route.overlap) (most OverlapSections)
    && are_distinct have_one_section (route.steps ++ route.overlap)
    && lead_between net.sections (post_named route.from net) (post_named route.to net) route.steps route.overlap

-- a sound network is distinct, and each of its posts, turns and routes is sound in it
pub record IsSoundNetwork (net : Net) : Type 0 where
  pub distinct : IsDistinctNetwork net
  pub portals : IsTrue (list_all (is_sound_post Portal net.sections) net.portals)
  pub signals : IsTrue (list_all (is_sound_post Signal net.sections) net.signals)
  pub boards : IsTrue (list_all (is_sound_post Board net.sections) net.boards)
  pub turns : IsTrue (list_all (is_sound_turn net) net.turns)
  pub routes : IsTrue (list_all (is_sound_route net) net.routes)
