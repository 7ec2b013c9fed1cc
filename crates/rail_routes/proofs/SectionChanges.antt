-- A sound network stays sound with a section more, and without one that is not in use.
use Rattle.std.proofs.Common.{◌≡◌, ℕ, ◌+◌, ◌≤◌, Bool, true, false, cond, ◌&&◌, ◌||◌, ◌==◌, List, [], ◌∷◌, ◌++◌, Some, None, Result, Ok, Err, refl, sym, ap, subst, ◌∙◌, arith}
use Rattle.std.specs.List.{list_any}
use Rattle.std.specs.Option.{option_map_or}
use Rattle.std.specs.Result.{OnOk, OnErr, IfOk}
use Rattle.std.proofs.lemmas.Bool.Decides.{nat_tests}
use Rattle.std.proofs.lemmas.List.Folds.{list_any-append}
use Rattle.rail_base.specs.NameForms.{same_name}
use Rattle.rail_track.specs.declared.section.Section.{Section}
use Rattle.rail_track.specs.Lists.{without}
use Rattle.rail_track.specs.Joints.{is_named, is_full, section_named, section_has, sections_at, has_joint}
use Rattle.rail_track.specs.SoundTracks.{IsSoundTrack}
use Rattle.rail_track.proofs.CallerLemmas.{IsAccepted, accepted, fails_at, one_more, sections_at-push, same_name-comm, same_from_name, count_by-without, list_any-map}
use Rattle.rail_routes.specs.declared.items.Post.{Post}
use Rattle.rail_routes.specs.declared.items.PostRole.{PostRole}
use Rattle.rail_routes.specs.declared.items.PostRole.TheVariants.{Portal, Signal, Board}
use Rattle.rail_routes.specs.declared.items.Step.{Step}
use Rattle.rail_routes.specs.declared.items.Route.{Route}
use Rattle.rail_routes.specs.Net.{Net, posts, post_named, stands_at}
use Rattle.rail_routes.specs.PostRules.{stands_as, stands_well, is_formed, has_joint_ahead}
use Rattle.rail_routes.specs.SectionRules.{is_closed_by, net_section_refusal}
use Rattle.rail_routes.specs.Uses.{sections_in, is_section_used, claims, section_removal}
use Rattle.rail_routes.specs.SoundNetworks.{IsSoundNetwork, same_role, is_timed, is_sound_post, is_sound_route, lead_between}
use Rattle.rail_routes.proofs.Uses.{any_swap, any_agree, any_or, any_false}
use Rattle.rail_routes.proofs.Lists.{both_true, both_false, last_kept, find-more, find-without_other, find_true, all_kept, all_more}
use Rattle.rail_routes.proofs.Kept.{Keeps, has_kept, way_kept, stands_same}
use Rattle.rail_routes.proofs.Distinctness.{distinct_sections}
use Rattle.rail_routes.proofs.Removals.{unused_section}

pub same_from_role : (role other : PostRole) → same_role role other ≡ true → other ≡ role
same_from_role Portal Portal h = refl
same_from_role Portal Signal h = cc
same_from_role Portal Board h = cc
same_from_role Signal Portal h = cc
same_from_role Signal Signal h = refl
same_from_role Signal Board h = cc
same_from_role Board Portal h = cc
same_from_role Board Signal h = cc
same_from_role Board Board h = refl

-- a route over sections that are still there
route_kept : (net : Net) (others : List Section) (gone : Step → Bool) → ((step : Step) → gone step ≡ false → Keeps net.sections others step.section)
    → (route : Route) → list_any gone route.steps ≡ false → list_any gone route.overlap ≡ false → is_sound_route net route ≡ true → is_sound_route (record net { sections = others }) route ≡ true
route_kept net others gone keeps route none beyond =
    let begin = post_named route.from net in
    let end = post_named route.to net in
    last_kept _ (lead_between net.sections begin end route.steps route.overlap) (lead_between others begin end route.steps route.overlap) (way_kept net.sections others gone keeps begin end route.steps route.overlap none beyond)

not_two : (n : ℕ) → n ≤ 1 → (n == 2) ≡ true → ⊥
not_two n few two = grind (arith, nat_tests)

one_then_two : (n m : ℕ) → n ≤ 1 → m ≡ n + 1 → (n == 1 || n == 2) ≡ true → (m == 1 || m == 2) ≡ true
one_then_two n m few next one = grind (arith, nat_tests)

module _ (net : Net) (section : Section) (is : IsSoundNetwork net) (accepted : IsAccepted net.sections (is_closed_by net.sections net.portals) section) where
  abbrev more : List Section
  more = net.sections ++ section ∷ []

  keeps : (name : List ℕ) → Keeps net.sections more name
  keeps name other found = find-more (is_named name) net.sections (section ∷ []) other found

  free_portals : list_any (λ (post : Post). has_joint post.joint section) net.portals ≡ false
  free_portals =
      let at_portal = λ (joint : List ℕ). list_any (stands_at joint) net.portals in
      let none : list_any at_portal section.joints ≡ false = (both_false (list_any (is_full net.sections) section.joints) (list_any at_portal section.joints) (sym (any_or (is_full net.sections) at_portal section.joints) ∙ accepted.roomy)).1 in
      sym (any_swap (λ (joint : List ℕ) (post : Post). same_name joint post.joint) section.joints net.portals
      ∙ any_agree (λ (post : Post). list_any (λ joint. same_name joint post.joint) section.joints) (λ (post : Post). has_joint post.joint section)
      (λ post. any_agree (λ joint. same_name joint post.joint) (same_name post.joint) (λ joint. same_name-comm joint post.joint) section.joints) net.portals)
      ∙ none

  few_there : (joint : List ℕ) → has_joint joint section ≡ true → sections_at net.sections joint ≤ 1
  few_there joint has = one_more net.sections joint (both_false (is_full net.sections joint) (list_any (stands_at joint) net.portals) (fails_at (is_closed_by net.sections net.portals) joint section.joints accepted.roomy has)).0

  stands_more : (role : PostRole) (post : Post) (has : Bool) → has_joint post.joint section ≡ has → (role ≡ Portal → has ≡ false) → stands_as role net.sections post ≡ true → stands_as role more post ≡ true
  stands_more role post false is free stands =
      stands_same net.sections more role post (sections_at-push net.sections section post.joint ∙ ap {B = ℕ} (λ b. sections_at net.sections post.joint + cond b 1 0) is ∙ omega arith) (λ ahead. has_kept net.sections more ahead post.joint (keeps ahead)) stands
  stands_more Portal post true is free stands = let never = free refl in cc
  stands_more Signal post true is free stands = absurd (not_two (sections_at net.sections post.joint) (few_there post.joint is) (both_true (sections_at net.sections post.joint == 2) (has_joint_ahead net.sections post) stands).0)
  stands_more Board post true is free stands = one_then_two (sections_at net.sections post.joint) (sections_at more post.joint) (few_there post.joint is) (sections_at-push net.sections section post.joint ∙ ap {B = ℕ} (λ b. sections_at net.sections post.joint + cond b 1 0) is) stands

  post_more : (role : PostRole) (post : Post) → (role ≡ Portal → has_joint post.joint section ≡ false) → is_sound_post role net.sections post ≡ true → is_sound_post role more post ≡ true
  post_more role post free h =
      let b = both_true (same_role role post.role && is_formed post && is_timed post) (stands_well net.sections post) h in
      let own = same_from_role role post.role (both_true (same_role role post.role) (is_formed post) (both_true (same_role role post.role && is_formed post) (is_timed post) b.0).0).0 in
      λ i. b.0 i && stands_more post.role post (has_joint post.joint section) refl (λ portal. free (sym own ∙ portal)) b.1 i

  pub sound_with_section : IsSoundTrack more → IsSoundNetwork (record net { sections = more })
  sound_with_section track = record {
    distinct = distinct_sections net more is.distinct track;
    portals = all_kept (is_sound_post Portal more) (is_sound_post Portal net.sections) (λ (post : Post). has_joint post.joint section) (λ post h free. post_more Portal post (λ _. free) h) net.portals is.portals free_portals;
    signals = all_more (is_sound_post Signal more) (is_sound_post Signal net.sections) (λ post h. post_more Signal post (λ never. cc) h) net.signals is.signals;
    boards = all_more (is_sound_post Board more) (is_sound_post Board net.sections) (λ post h. post_more Board post (λ never. cc) h) net.boards is.boards;
    turns = is.turns;
    routes = all_more (is_sound_route (record net { sections = more })) (is_sound_route net) (λ route h. route_kept net more (λ _. false) (λ step _. keeps step.section) route (any_false route.steps) (any_false route.overlap) h) net.routes is.routes;
  }

module _ (net : Net) (name : List ℕ) (section : Section) (is : IsSoundNetwork net) (found : section_named name net.sections ≡ Some section) (unused : is_section_used net section ≡ false) where
  abbrev less : List Section
  less = without (is_named name) net.sections

  own_name : name ≡ section.name
  own_name = same_from_name name section.name (find_true (is_named name) net.sections section found)

  keeps_other : (other : List ℕ) → same_name name other ≡ false → Keeps net.sections less other
  keeps_other other differs known there =
      find-without_other (is_named other) (is_named name) (λ (s : Section) same. ap (same_name other) (sym (same_from_name name s.name same)) ∙ same_name-comm other name ∙ differs) net.sections ∙ there

  free : (list_any (λ (post : Post). has_joint post.joint section) (posts net) ≡ false) × (list_any (claims section.name) net.routes ≡ false)
  free = both_false (list_any (λ (post : Post). has_joint post.joint section) (posts net)) (list_any (claims section.name) net.routes) unused

  has_less : (ahead joint : List ℕ) → has_joint joint section ≡ false → section_has net.sections ahead joint ≡ true → section_has less ahead joint ≡ true
  has_less ahead joint free h = by (same_name name ahead) refl
    where
      by : (b : Bool) → same_name name ahead ≡ b → section_has less ahead joint ≡ true
      by false differs = has_kept net.sections less ahead joint (keeps_other ahead differs) h
      by true same =
          let gone : section_has net.sections ahead joint ≡ false = (λ i. section_has net.sections (sym (same_from_name name ahead same) i) joint) ∙ ap (λ o. option_map_or (has_joint joint) o false) found ∙ free in
          cc

  post_less : (role : PostRole) (post : Post) → is_sound_post role net.sections post ≡ true → has_joint post.joint section ≡ false → is_sound_post role less post ≡ true
  post_less role post h free =
      last_kept (same_role role post.role && is_formed post && is_timed post) (stands_well net.sections post) (stands_well less post)
      (stands_same net.sections less post.role post
      (let count = count_by-without (is_named name) (has_joint post.joint) net.sections section found in
      let none : cond (has_joint post.joint section) 1 0 ≡ 0 = ap {B = ℕ} (λ b. cond b 1 0) free in
      omega (arith, count, none))
      (λ ahead. has_less ahead post.joint free))
      h

  free_parts : ((list_any (λ (post : Post). has_joint post.joint section) net.portals ≡ false) × (list_any (λ (post : Post). has_joint post.joint section) net.signals ≡ false)) × (list_any (λ (post : Post). has_joint post.joint section) net.boards ≡ false)
  free_parts =
      let test = λ (post : Post). has_joint post.joint section in
      let two = both_false (list_any test (net.portals ++ net.signals)) (list_any test net.boards) (sym (list_any-append test (net.portals ++ net.signals) net.boards) ∙ free.0) in
      (both_false (list_any test net.portals) (list_any test net.signals) (sym (list_any-append test net.portals net.signals) ∙ two.0), two.1)

  route_less : (route : Route) → is_sound_route net route ≡ true → claims section.name route ≡ false → is_sound_route (record net { sections = less }) route ≡ true
  route_less route h free =
      let gone = λ (step : Step). same_name name step.section in
      let split = both_false (list_any (same_name name) (sections_in route.steps)) (list_any (same_name name) (sections_in route.overlap)) (sym (list_any-append (same_name name) (sections_in route.steps) (sections_in route.overlap)) ∙ ap (λ n. claims n route) own_name ∙ free) in
      let none : list_any gone route.steps ≡ false = sym (list_any-map (same_name name) (λ (step : Step). step.section) route.steps) ∙ split.0 in
      let beyond : list_any gone route.overlap ≡ false = sym (list_any-map (same_name name) (λ (step : Step). step.section) route.overlap) ∙ split.1 in
      route_kept net less gone (λ step differs. keeps_other step.section differs) route none beyond h

  pub sound_without_section : IsSoundTrack less → IsSoundNetwork (record net { sections = less })
  sound_without_section track = record {
    distinct = distinct_sections net less is.distinct track;
    portals = all_kept (is_sound_post Portal less) (is_sound_post Portal net.sections) (λ (post : Post). has_joint post.joint section) (post_less Portal) net.portals is.portals free_parts.0.0;
    signals = all_kept (is_sound_post Signal less) (is_sound_post Signal net.sections) (λ (post : Post). has_joint post.joint section) (post_less Signal) net.signals is.signals free_parts.0.1;
    boards = all_kept (is_sound_post Board less) (is_sound_post Board net.sections) (λ (post : Post). has_joint post.joint section) (post_less Board) net.boards is.boards free_parts.1;
    turns = is.turns;
    routes = all_kept (is_sound_route (record net { sections = less })) (is_sound_route net) (claims section.name) route_less net.routes is.routes free.1;
  }

-- whether the track took the section or not
pub sound_after_adding : {A E : Type 0} (net : Net) (section : Section) (new : List Section) (r : Result A E) → IsSoundNetwork net → net_section_refusal net section ≡ None
    → IsSoundTrack new → OnOk r (new ≡ net.sections ++ section ∷ []) → OnErr r (new ≡ net.sections) → IsSoundNetwork (record net { sections = new })
sound_after_adding net section new (Ok x) is none track added kept =
    subst (λ sections. IsSoundNetwork (record net { sections = sections })) (sym added) (sound_with_section net section is (accepted net.sections (is_closed_by net.sections net.portals) section none) (subst IsSoundTrack added track))
sound_after_adding net section new (Err e) is none track added kept = subst (λ sections. IsSoundNetwork (record net { sections = sections })) (sym kept) is

pub sound_after_removal : {E : Type 0} (net : Net) (name : List ℕ) (new : List Section) (r : Result Section E) → IsSoundNetwork net → section_removal net name ≡ None
    → IsSoundTrack new → IfOk r (λ section. section_named name net.sections ≡ Some section) → OnOk r (new ≡ without (is_named name) net.sections) → OnErr r (new ≡ net.sections) → IsSoundNetwork (record net { sections = new })
sound_after_removal net name new (Ok section) is none track found rest kept =
    subst (λ sections. IsSoundNetwork (record net { sections = sections })) (sym rest) (sound_without_section net name section is found (unused_section net name section none found) (subst IsSoundTrack rest track))
sound_after_removal net name new (Err e) is none track found rest kept = subst (λ sections. IsSoundNetwork (record net { sections = sections })) (sym kept) is
