-- What is in use, and so may not be taken out.
use Rattle.std.specs.Prelude.{ℕ, Bool, false, not, ◌||◌, List, [], ◌∷◌, ◌++◌, map, Option, is_none}
use Rattle.std.specs.List.{find, list_any}
use Rattle.std.specs.Option.{option_map_or}
use Rattle.rail_base.specs.NameForms.{same_name}
use Rattle.rail_base.specs.declared.refusals.Reason.TheVariants.{Unknown, InUse}
use Rattle.rail_track.specs.declared.section.NetFault.{NetFault}
use Rattle.rail_track.specs.declared.section.Section.{Section}
use Rattle.rail_track.specs.Joints.{has_joint, is_named, section_named}
use Rattle.rail_base.specs.FirstRefusals.{first_failing}
use Rattle.rail_track.specs.NetFaults.{refused_where}
use Rattle.rail_routes.specs.declared.items.Step.{Step}
use Rattle.rail_routes.specs.declared.items.Turn.{Turn}
use Rattle.rail_routes.specs.declared.items.Route.{Route}
use Rattle.rail_routes.specs.Net.{Net, posts, is_post, is_turn, is_route}

-- the sections of the steps, in order
abbrev pub sections_in : List Step → List (List ℕ)
sections_in steps = map (λ (step : Step). step.section) steps

-- the sections that the route claims, in order: those of its path, and then those of its overlap
abbrev pub sections_of : Route → List (List ℕ)
sections_of route = sections_in route.steps ++ sections_in route.overlap

-- the route claims the section
abbrev pub claims : List ℕ → Route → Bool
claims section route = list_any (same_name section) (sections_of route)

-- a section is in use where a post stands at one of its joints or a route claims it
abbrev pub is_section_used : Net → Section → Bool
is_section_used net section =
    list_any (λ post. has_joint post.joint section) (posts net)
    || list_any (claims section.name) net.routes

-- the turn names the post
abbrev pub turns_at : List ℕ → Turn → Bool
turns_at post turn = list_any (same_name post) (turn.arriving ∷ turn.leaving ∷ [])

-- the route begins or ends at the post
abbrev pub goes_to : List ℕ → Route → Bool
goes_to post route = list_any (same_name post) (route.from ∷ route.to ∷ [])

-- a post is in use where a turn or a route names it
abbrev pub is_post_used : Net → List ℕ → Bool
is_post_used net name = list_any (turns_at name) net.turns || list_any (goes_to name) net.routes

-- why a section is not taken out
abbrev pub section_removal : Net → List ℕ → Option NetFault
section_removal net name =
    first_failing (refused_where Unknown 0 (not (list_any (is_named name) net.sections))
    ∷ refused_where InUse 0 (option_map_or (is_section_used net) (section_named name net.sections) false)
    ∷ [])

-- why a post is not taken out
abbrev pub post_removal : Net → List ℕ → Option NetFault
post_removal net name =
    first_failing (refused_where Unknown 0 (not (list_any (is_post name) (posts net)))
    ∷ refused_where InUse 0 (is_post_used net name)
    ∷ [])

-- why a turn is not taken out
abbrev pub turn_removal : Net → List ℕ → List ℕ → Option NetFault
turn_removal net arriving leaving =
    first_failing (refused_where Unknown 0 (is_none (find (is_turn arriving leaving) net.turns)) ∷ [])

-- why a route is not taken out
abbrev pub route_removal : Net → List ℕ → Option NetFault
route_removal net name = first_failing (refused_where Unknown 0 (is_none (find (is_route name) net.routes)) ∷ [])
