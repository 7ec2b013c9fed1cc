-- What a sound route has.
use Rattle.std.proofs.Common.{◌≡◌, ℕ, ◌≤◌, Bool, true, false, not, ◌&&◌, ◌||◌, leb, List, [], ◌∷◌, ◌++◌, length, is_some, unwrap_or, Option, Some, None, refl, sym, ◌∙◌}
use Rattle.std.specs.List.{list_any, list_all}
use Rattle.std.specs.Option.{option_map_or}
use Rattle.std.proofs.lemmas.Bool.{and_parts, and_from, leb-true, false≢true}
use Rattle.rail_base.specs.NameForms.{same_name}
use Rattle.rail_base.specs.declared.limits.TheConstants.{OVERLAP_SECTIONS, ROUTE_SECTIONS}
use Rattle.rail_track.specs.declared.section.Section.{Section}
use Rattle.rail_track.specs.Joints.{is_named, section_named}
use Rattle.rail_track.specs.Passages.{passages, leads, has_passage}
use Rattle.rail_base.specs.Lists.{are_distinct}
use Rattle.rail_routes.specs.declared.items.Post.{Post}
use Rattle.rail_routes.specs.declared.items.PostRole.{PostRole}
use Rattle.rail_routes.specs.declared.items.PostRole.TheVariants.{Portal, Signal, Board}
use Rattle.rail_routes.specs.declared.items.Step.{Step}
use Rattle.rail_routes.specs.declared.items.Route.{Route}
use Rattle.rail_routes.specs.Net.{Net, post_named, no_post}
use Rattle.rail_routes.specs.PostRules.{has_times}
use Rattle.rail_routes.specs.RouteRules.{is_ahead_of, begins, ends, goes_on, is_beyond, leads_from, leads_on}
use Rattle.rail_routes.specs.SoundNetworks.{have_one_section, lead_to, lead_on, is_sound_path, is_sound_overlap, lead_between, is_sound_route}
use Rattle.rail_routes.proofs.CallerLemmas.{well_led}
use Rattle.rail_compile.specs.Itineraries.{is_portal, is_portal_role}
use Rattle.rail_compile.specs.Ways.{is_known_step}
use Rattle.rail_compile.proofs.Finds.{is_some-find}

pub record IsRoute (net : Net) (route : Route) : Type 0 where
  pub some_step : 1 ≤ length route.steps
  pub few_steps : length route.steps ≤ ROUTE_SECTIONS
  pub few_over : length route.overlap ≤ OVERLAP_SECTIONS
  pub apart : are_distinct have_one_section (route.steps ++ route.overlap) ≡ true
  pub leads : lead_between net.sections (post_named route.from net) (post_named route.to net) route.steps route.overlap ≡ true

pub sound_route : (net : Net) (route : Route) → is_sound_route net route ≡ true → IsRoute net route
sound_route net route h =
    let rule = well_led net route h in
    let range = and_parts (leb 1 (length route.steps)) (leb (length route.steps) ROUTE_SECTIONS) rule.sized in
    record {
      some_step = leb-true 1 (length route.steps) range.0;
      few_steps = leb-true (length route.steps) ROUTE_SECTIONS range.1;
      few_over = leb-true (length route.overlap) OVERLAP_SECTIONS rule.few;
      apart = rule.apart;
      leads = rule.led;
    }

pub few_steps : (net : Net) (route : Route) → is_sound_route net route ≡ true → length route.steps ≤ ROUTE_SECTIONS
few_steps net route h = (sound_route net route h).few_steps

-- a section with a passage is known
passage_known : (sections : List Section) (name from to : List ℕ) → has_passage sections name from to ≡ true → list_any (is_named name) sections ≡ true
passage_known sections name from to passes =
    sym (is_some-find (is_named name) sections)
    ∙ some_mapped (λ section. list_any (leads from to) (passages section.kind section.joints)) (section_named name sections) passes
  where
    some_mapped : (f : Section → Bool) (o : Option Section) → option_map_or f o false ≡ true → is_some o ≡ true
    some_mapped f None h = absurd (false≢true h)
    some_mapped f (Some x) h = refl

-- the section of each step is known
leading_known : (sections : List Section) (end : Post) (joint : List ℕ) (steps : List Step) → lead_to sections end joint steps ≡ true → list_all (is_known_step sections) steps ≡ true
leading_known sections end joint [] leads_there = refl
leading_known sections end joint (step ∷ rest) leads_there =
    let parts = and_parts (leads_on sections end joint step rest) (lead_to sections end step.to rest) leads_there in
    let joined : Bool = same_name joint step.from in
    let passes : Bool = has_passage sections step.section step.from step.to in
    let front = and_parts (joined && passes) (goes_on rest || ends end step) parts.0 in
    and_from (is_known_step sections step) (list_all (is_known_step sections) rest)
    (passage_known sections step.section step.from step.to (and_parts joined passes front.0).1)
    (leading_known sections end step.to rest parts.1)

on_known : (sections : List Section) (joint : List ℕ) (steps : List Step) → lead_on sections joint steps ≡ true → list_all (is_known_step sections) steps ≡ true
on_known sections joint [] leads_there = refl
on_known sections joint (step ∷ rest) leads_there =
    let parts = and_parts (leads_from sections joint step) (lead_on sections step.to rest) leads_there in
    let passes = and_parts (same_name joint step.from) (has_passage sections step.section step.from step.to) parts.0 in
    and_from (is_known_step sections step) (list_all (is_known_step sections) rest)
    (passage_known sections step.section step.from step.to passes.1)
    (on_known sections step.to rest parts.1)

-- what the two posts of a route say of its steps
pub record LeadsFrom (net : Net) (begin : Option Post) (steps overlap : List Step) : Type 0 where
  pub there : is_some begin ≡ true
  pub no_board : has_times (unwrap_or begin no_post).role ≡ true
  pub known : list_all (is_known_step net.sections) steps ≡ true
  pub over_known : list_all (is_known_step net.sections) overlap ≡ true

ahead_timed : (role : PostRole) (post : Post) (sections : List Section) (name : List ℕ) → is_ahead_of role post sections name ≡ true → has_times role ≡ true
ahead_timed Portal post sections name h = refl
ahead_timed Signal post sections name h = refl
ahead_timed Board post sections name h = absurd (false≢true h)

begins_timed : (post : Post) (sections : List Section) (steps : List Step) → begins post sections steps ≡ true → has_times post.role ≡ true
begins_timed post sections [] h = absurd (false≢true h)
begins_timed post sections (step ∷ rest) h = ahead_timed post.role post sections step.section h

between : (net : Net) (begin end : Option Post) (steps overlap : List Step) → lead_between net.sections begin end steps overlap ≡ true → LeadsFrom net begin steps overlap
between net None end steps overlap h = absurd (false≢true h)
between net (Some begin) None steps overlap h = absurd (false≢true h)
between net (Some begin) (Some end) steps overlap h =
    let (path, over) = and_parts (is_sound_path net.sections begin end steps) (is_sound_overlap net.sections end overlap) h in
    let parts = and_parts (begins begin net.sections steps) (lead_to net.sections end begin.joint steps) path in
    let overs = and_parts (not (is_beyond end.role overlap)) (lead_on net.sections end.joint overlap) over in
    record {
      there = refl;
      no_board = begins_timed begin net.sections steps parts.0;
      known = leading_known net.sections end begin.joint steps parts.1;
      over_known = on_known net.sections end.joint overlap overs.1;
    }

pub led_from : (net : Net) (route : Route) → is_sound_route net route ≡ true → LeadsFrom net (post_named route.from net) route.steps route.overlap
led_from net route h = between net (post_named route.from net) (post_named route.to net) route.steps route.overlap (sound_route net route h).leads

-- nothing lies behind a portal
beyond : (net : Net) (begin end : Option Post) (steps overlap : List Step) → lead_between net.sections begin end steps overlap ≡ true
    → option_map_or (λ (post : Post). is_portal_role post.role) end false ≡ true → overlap ≡ []
beyond net None end steps overlap h portal = absurd (false≢true h)
beyond net (Some begin) None steps overlap h portal = absurd (false≢true h)
beyond net (Some begin) (Some end) steps overlap h portal =
    let over = (and_parts (is_sound_path net.sections begin end steps) (is_sound_overlap net.sections end overlap) h).1 in
    none end.role overlap portal (and_parts (not (is_beyond end.role overlap)) (lead_on net.sections end.joint overlap) over).0
  where
    none : (role : PostRole) (steps : List Step) → is_portal_role role ≡ true → not (is_beyond role steps) ≡ true → steps ≡ []
    none Portal [] portal free = refl
    none Portal (step ∷ rest) portal free = absurd (false≢true free)
    none Signal steps portal free = absurd (false≢true portal)
    none Board steps portal free = absurd (false≢true portal)

-- so a route that ends at one has no overlap
pub ends_plain : (net : Net) (route : Route) → is_sound_route net route ≡ true → is_portal net route.to ≡ true → route.overlap ≡ []
ends_plain net route h portal = beyond net (post_named route.from net) (post_named route.to net) route.steps route.overlap (sound_route net route h).leads portal
