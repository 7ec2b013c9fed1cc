-- Which routes are accepted.
use Rattle.std.specs.Prelude.{ℕ, ◌+◌, Bool, true, false, not, ◌||◌, ◌&&◌, List, [], ◌∷◌, ◌++◌, Option, Some, length, take, nat_le, ◌-◌}
use Rattle.std.specs.List.{list_any}
use Rattle.rail_base.specs.NameForms.{same_name}
use Rattle.rail_base.specs.Limits.{is_from_one, most, Routes, RouteSections, OverlapSections}
use Rattle.rail_base.specs.declared.refusals.Reason.TheVariants.{TooMany, Range, Repeated, Unknown, RouteRepeat, RouteBroken}
use Rattle.rail_track.specs.declared.section.NetFault.{NetFault}
use Rattle.rail_track.specs.declared.section.Section.{Section}
use Rattle.rail_track.specs.Joints.{is_named, section_has}
use Rattle.rail_track.specs.Passages.{has_passage}
use Rattle.rail_base.specs.FirstRefusals.{Test, first_failing, tests_over}
use Rattle.rail_track.specs.NetFaults.{refused_where}
use Rattle.rail_routes.specs.declared.items.Post.{Post}
use Rattle.rail_routes.specs.declared.items.PostRole.{PostRole}
use Rattle.rail_routes.specs.declared.items.PostRole.TheVariants.{Portal, Signal, Board}
use Rattle.rail_routes.specs.declared.items.Step.{Step}
use Rattle.rail_routes.specs.declared.items.Route.{Route}
use Rattle.rail_routes.specs.Net.{Net, posts, post_named, is_post, is_route, guards}

-- the section of the step was that of an earlier one: of the steps before number n
abbrev pub occurred : List Step → ℕ → Step → Bool
occurred steps n step = list_any (λ (other : Step). same_name step.section other.section) (take (n - 1) steps)

-- each section of the steps that go on behind these first ones is another than those before it
abbrev pub repeats_behind : List Step → List Step → List (Test NetFault)
repeats_behind before steps =
    tests_over (λ n step. refused_where RouteRepeat n (occurred (before ++ steps) n step)) (length before + 1) steps

-- no section occurs twice in path and overlap together
abbrev pub repeat_tests : List Step → List Step → List (Test NetFault)
repeat_tests steps overlap = repeats_behind [] steps ++ repeats_behind steps overlap

-- the section is ahead of the post: a portal has the one section of its joint ahead, and a board none
abbrev pub is_ahead_of : PostRole → Post → List Section → List ℕ → Bool
is_ahead_of Portal post sections name = section_has sections name post.joint
is_ahead_of Signal post sections name = guards name post
is_ahead_of Board post sections name = false

-- the steps begin with the section ahead of the post
abbrev pub begins : Post → List Section → List Step → Bool
begins post sections [] = false
begins post sections (step ∷ steps) = is_ahead_of post.role post sections step.section

-- the step ends at the joint of the post, and not in the section ahead of it
abbrev pub ends : Post → Step → Bool
ends post step = same_name post.joint step.to && not (guards step.section post)

-- a step follows
abbrev pub goes_on : List Step → Bool
goes_on [] = false
goes_on (step ∷ steps) = true

-- the step leads on from the joint over a passage of its section
abbrev pub leads_from : List Section → List ℕ → Step → Bool
leads_from sections joint step = same_name joint step.from && has_passage sections step.section step.from step.to

-- the step leads on from the joint, and, where no step follows, to the post
abbrev pub leads_on : List Section → Post → List ℕ → Step → List Step → Bool
leads_on sections end joint step rest = leads_from sections joint step && (goes_on rest || ends end step)

-- each step leads on from where the one before ended
abbrev pub step_tests : List Section → Post → ℕ → List ℕ → List Step → List (Test NetFault)
step_tests sections end n joint [] = []
step_tests sections end n joint (step ∷ steps) =
    refused_where RouteBroken n (not (leads_on sections end joint step steps))
    ∷ step_tests sections end (n + 1) step.to steps

-- each step, from this number on, leads on from where the one before ended
abbrev pub lead_tests : List Section → ℕ → List ℕ → List Step → List (Test NetFault)
lead_tests sections n joint [] = []
lead_tests sections n joint (step ∷ steps) =
    refused_where RouteBroken n (not (leads_from sections joint step)) ∷ lead_tests sections (n + 1) step.to steps

-- an overlap lies behind a portal, where the plant ends
abbrev pub is_beyond : PostRole → List Step → Bool
is_beyond Portal overlap = goes_on overlap
is_beyond Signal overlap = false
is_beyond Board overlap = false

-- the overlap, which begins with the step of this number, leads on from the post
abbrev pub overlap_from : Post → List Section → ℕ → List Step → List (Test NetFault)
overlap_from end sections n overlap =
    refused_where RouteBroken n (is_beyond end.role overlap) ∷ lead_tests sections n end.joint overlap

-- the steps lead from the one post to the other
abbrev pub path_from : Post → Post → List Section → List Step → List (Test NetFault)
path_from begin end sections steps =
    refused_where RouteBroken 1 (not (begins begin sections steps))
    ∷ step_tests sections end 1 begin.joint steps

-- the path leads from the one post to the other, and the overlap on from there
abbrev pub way_from : Post → Post → List Section → List Step → List Step → List (Test NetFault)
way_from begin end sections steps overlap = path_from begin end sections steps ++ overlap_from end sections (length steps + 1) overlap

-- the same, where both posts are there
abbrev pub way_tests : Option Post → Option Post → List Section → List Step → List Step → List (Test NetFault)
way_tests (Some begin) (Some end) sections steps overlap = way_from begin end sections steps overlap
way_tests begin end sections steps overlap = []

-- a step runs over none of the sections
abbrev pub misses_section : List Section → List Step → Bool
misses_section sections steps = list_any (λ (step : Step). not (list_any (is_named step.section) sections)) steps

-- the rules that a route keeps in its network
abbrev pub rule_tests : Net → Route → List (Test NetFault)
rule_tests net route =
    refused_where Unknown 2 (not (list_any (is_post route.from) (posts net)))
    ∷ refused_where Unknown 3 (not (list_any (is_post route.to) (posts net)))
    ∷ refused_where Unknown 4 (misses_section net.sections route.steps)
    ∷ refused_where Unknown 5 (misses_section net.sections route.overlap)
    ∷ repeat_tests route.steps route.overlap
    ++ way_tests (post_named route.from net) (post_named route.to net) net.sections route.steps route.overlap

-- the tests of a new route, in their order
abbrev pub route_tests : Net → Route → List (Test NetFault)
route_tests net route =
    refused_where TooMany 0 (nat_le (most Routes) (length net.routes))
    ∷ refused_where Range 4 (not (is_from_one (most RouteSections) (length route.steps)))
    ∷ refused_where Range 5 (not (nat_le (length route.overlap) (most OverlapSections)))
    ∷ refused_where Repeated 1 (list_any (is_route route.name) net.routes)
    ∷ rule_tests net route

-- why a new route is refused
abbrev pub route_refusal : Net → Route → Option NetFault
route_refusal net route = first_failing (route_tests net route)
