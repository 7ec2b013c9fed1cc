-- A sound network stays sound with a post more, and without one that is not in use.
use Rattle.std.proofs.Common.{◌≡◌, ℕ, Bool, true, false, not, ◌&&◌, ◌||◌, List, [], ◌∷◌, ◌++◌, Option, Some, None, is_some, length, nat_le, refl, sym, ap, ◌∙◌}
use Rattle.std.specs.List.{list_any, list_all, find}
use Rattle.std.specs.Option.{option_or}
use Rattle.std.proofs.lemmas.List.Folds.{find-append, list_any-append}
use Rattle.rail_base.specs.NameForms.{same_name}
use Rattle.rail_base.specs.declared.limits.TheConstants.{SETTING, WATCHING, APPROACH, TURN_TIME, ROUTE_SECTIONS, OVERLAP_SECTIONS}
use Rattle.rail_track.specs.declared.section.Section.{Section}
use Rattle.rail_base.specs.Limits.{is_from_one}
use Rattle.rail_base.specs.Lists.{are_distinct}
use Rattle.rail_base.proofs.CallerLemmas.{all_passed}
use Rattle.rail_track.proofs.CallerLemmas.{same_name-comm, same_from_name, list_all-without}
use Rattle.rail_routes.specs.declared.items.Post.{Post}
use Rattle.rail_routes.specs.declared.items.PostRole.{PostRole}
use Rattle.rail_routes.specs.declared.items.PostRole.TheVariants.{Portal, Signal, Board}
use Rattle.rail_routes.specs.declared.items.Step.{Step}
use Rattle.rail_routes.specs.declared.items.Turn.{Turn}
use Rattle.rail_routes.specs.declared.items.Route.{Route}
use Rattle.rail_routes.specs.Net.{Net, posts, is_post, post_named}
use Rattle.rail_routes.specs.PostRules.{post_tests, post_refusal, is_formed, is_taken, has_times, stands_well}
use Rattle.rail_routes.specs.TurnRules.{turns_well}
use Rattle.rail_routes.specs.PostChanges.{without_post}
use Rattle.rail_routes.specs.Uses.{turns_at, goes_to, is_post_used}
use Rattle.rail_routes.specs.SoundNetworks.{IsSoundNetwork, same_role, is_timed, is_sound_post, is_sound_turn, is_sound_route, have_one_section, lead_between}
use Rattle.rail_routes.proofs.Uses.{list_any-find}
use Rattle.rail_routes.proofs.Lists.{both_true, both_false, not_false, find-push_other, find-without_other, all_kept, all_more, all_push}
use Rattle.rail_routes.proofs.Distinctness.{distinct_portal, distinct_signal, distinct_board, distinct_without_post}

-- the name finds the same posts in both
record IsSameNamed (net other : Net) (name : List ℕ) : Type 0 where
  portals : find (is_post name) other.portals ≡ find (is_post name) net.portals
  signals : find (is_post name) other.signals ≡ find (is_post name) net.signals
  boards : find (is_post name) other.boards ≡ find (is_post name) net.boards

in_order : (q : Post → Bool) (portals signals boards : List Post) → find q (portals ++ signals ++ boards) ≡ option_or (option_or (find q portals) (find q signals)) (find q boards)
in_order q portals signals boards = find-append q (portals ++ signals) boards ∙ ap (λ o. option_or o (find q boards)) (find-append q portals signals)

any_same : (q : Post → Bool) (xs ys : List Post) → find q xs ≡ find q ys → list_any q xs ≡ list_any q ys
any_same q xs ys same = list_any-find q xs ∙ ap is_some same ∙ sym (list_any-find q ys)

module _ (net other : Net) where
  post_same : (name : List ℕ) → IsSameNamed net other name → post_named name other ≡ post_named name net
  post_same name same =
      in_order (is_post name) other.portals other.signals other.boards
      ∙ (λ i. option_or (option_or (same.portals i) (same.signals i)) (same.boards i))
      ∙ sym (in_order (is_post name) net.portals net.signals net.boards)

  turn_same : (turn : Turn) → IsSameNamed net other turn.arriving → IsSameNamed net other turn.leaving → is_sound_turn other turn ≡ is_sound_turn net turn
  turn_same turn arriving leaving =
      let there = any_same (is_post turn.arriving) (posts other) (posts net) (post_same turn.arriving arriving) in
      let portal = any_same (is_post turn.arriving) other.portals net.portals arriving.portals in
      let signal = any_same (is_post turn.leaving) other.signals net.signals leaving.signals in
      λ i. nat_le turn.time TURN_TIME && there i && (not (portal i) && signal i && not (same_name turn.arriving turn.leaving))

  route_same : (route : Route) → other.sections ≡ net.sections → IsSameNamed net other route.from → IsSameNamed net other route.to → is_sound_route other route ≡ is_sound_route net route
  route_same route sections from to =
      λ i. is_from_one ROUTE_SECTIONS (length route.steps) && nat_le (length route.overlap) OVERLAP_SECTIONS && are_distinct have_one_section (route.steps ++ route.overlap) && lead_between (sections i) (post_same route.from from i) (post_same route.to to i) route.steps route.overlap

-- a name that is there is another than one that is not
other_name : (net : Net) (known fresh : List ℕ) → list_any (is_post known) (posts net) ≡ true → list_any (is_post fresh) (posts net) ≡ false → same_name known fresh ≡ false
other_name net known fresh there absent = by (same_name known fresh) refl
  where
    by : (b : Bool) → same_name known fresh ≡ b → b ≡ false
    by false is = refl
    by true is = let gone : list_any (is_post known) (posts net) ≡ false = ap (λ n. list_any (is_post n) (posts net)) (same_from_name known fresh is) ∙ absent in cc

any_in_signals : (q : Post → Bool) (net : Net) → list_any q net.signals ≡ true → list_any q (posts net) ≡ true
any_in_signals q net there = list_any-append q (net.portals ++ net.signals) net.boards ∙ ap (λ b. b || list_any q net.boards) (list_any-append q net.portals net.signals) ∙ by (list_any q net.portals) (list_any q net.signals) there
  where
    by : (b c : Bool) → c ≡ true → ((b || c) || list_any q net.boards) ≡ true
    by true c h = refl
    by false true h = refl
    by false false h = cc

-- the posts that a sound turn or route names are there
module _ (net : Net) where
  turn_known : (turn : Turn) → is_sound_turn net turn ≡ true → (list_any (is_post turn.arriving) (posts net) ≡ true) × (list_any (is_post turn.leaving) (posts net) ≡ true)
  turn_known turn h =
      let a = both_true (nat_le turn.time TURN_TIME && list_any (is_post turn.arriving) (posts net)) (turns_well net turn) h in
      let b = both_true (not (list_any (is_post turn.arriving) net.portals) && list_any (is_post turn.leaving) net.signals) (not (same_name turn.arriving turn.leaving)) a.1 in (
        (both_true (nat_le turn.time TURN_TIME) (list_any (is_post turn.arriving) (posts net)) a.0).1,
        any_in_signals (is_post turn.leaving) net (both_true (not (list_any (is_post turn.arriving) net.portals)) (list_any (is_post turn.leaving) net.signals) b.0).1,
      )

  ends_known : (sections : List Section) (steps overlap : List Step) (begin end : Option Post) → lead_between sections begin end steps overlap ≡ true → (is_some begin ≡ true) × (is_some end ≡ true)
  ends_known sections steps overlap (Some begin) (Some end) h = (refl, refl)
  ends_known sections steps overlap (Some begin) None h = cc
  ends_known sections steps overlap None end h = cc

  route_known : (route : Route) → is_sound_route net route ≡ true → (list_any (is_post route.from) (posts net) ≡ true) × (list_any (is_post route.to) (posts net) ≡ true)
  route_known route h =
      let way = (both_true _ (lead_between net.sections (post_named route.from net) (post_named route.to net) route.steps route.overlap) h).1 in
      let ends = ends_known net.sections route.steps route.overlap (post_named route.from net) (post_named route.to net) way in
      (list_any-find (is_post route.from) (posts net) ∙ ends.0, list_any-find (is_post route.to) (posts net) ∙ ends.1)

module _ (net : Net) (post : Post) (is : IsSoundNetwork net) (formed : is_formed post ≡ true) (none : post_refusal net post ≡ None) where
  fresh : list_any (is_post post.name) (posts net) ≡ false
  fresh = (all_passed (post_tests net post) none).1.1.1.1.0

  -- the posts of other names are the same
  abbrev OthersSame : Net → Type 0
  OthersSame other = (name : List ℕ) → same_name name post.name ≡ false → IsSameNamed net other name

  turns_kept : (other : Net) → OthersSame other → list_all (is_sound_turn other) net.turns ≡ true
  turns_kept other same =
      all_more (is_sound_turn other) (is_sound_turn net)
      (λ turn h. let known = turn_known net turn h in
      turn_same net other turn (same turn.arriving (other_name net turn.arriving post.name known.0 fresh)) (same turn.leaving (other_name net turn.leaving post.name known.1 fresh)) ∙ h)
      net.turns is.turns

  routes_kept : (other : Net) → other.sections ≡ net.sections → OthersSame other → list_all (is_sound_route other) net.routes ≡ true
  routes_kept other sections same =
      all_more (is_sound_route other) (is_sound_route net)
      (λ route h. let known = route_known net route h in
      route_same net other route sections (same route.from (other_name net route.from post.name known.0 fresh)) (same route.to (other_name net route.to post.name known.1 fresh)) ∙ h)
      net.routes is.routes

  timed : (b w x y : Bool) → (b && not w) ≡ false → (b && not x) ≡ false → (b && not y) ≡ false → (not b || (w && x && y)) ≡ true
  timed false w x y hw hx hy = refl
  timed true true true true hw hx hy = refl
  timed true true true false hw hx hy = cc
  timed true true false y hw hx hy = cc
  timed true false x y hw hx hy = cc

  new_post : (role : PostRole) → post.role ≡ role → is_sound_post role net.sections post ≡ true
  new_post role own =
      let a = all_passed (post_tests net post) none in
      let in_time : is_timed post ≡ true = timed (has_times post.role) (is_from_one SETTING post.setting) (nat_le post.watching WATCHING) (nat_le post.approach APPROACH) a.1.0 a.1.1.0 a.1.1.1.0 in
      let placed : stands_well net.sections post ≡ true = not_false (stands_well net.sections post) (both_false (not (stands_well net.sections post)) (is_taken net post) a.1.1.1.1.1.1.0).0 in
      λ i. (ap (same_role role) own ∙ self role) i && formed i && in_time i && placed i
    where
      self : (r : PostRole) → same_role r r ≡ true
      self Portal = refl
      self Signal = refl
      self Board = refl

  pub sound_with_portal : post.role ≡ Portal → IsSoundNetwork (record net { portals = net.portals ++ post ∷ [] })
  sound_with_portal role =
      let same : OthersSame (record net { portals = net.portals ++ post ∷ [] }) = λ name differs. record { portals = find-push_other (is_post name) net.portals post differs; signals = refl; boards = refl } in
      record {
        distinct = distinct_portal net post is.distinct none role;
        portals = all_push (is_sound_post Portal net.sections) net.portals post is.portals (new_post Portal role);
        signals = is.signals;
        boards = is.boards;
        turns = turns_kept (record net { portals = net.portals ++ post ∷ [] }) same;
        routes = routes_kept (record net { portals = net.portals ++ post ∷ [] }) refl same;
      }

  pub sound_with_signal : post.role ≡ Signal → IsSoundNetwork (record net { signals = net.signals ++ post ∷ [] })
  sound_with_signal role =
      let same : OthersSame (record net { signals = net.signals ++ post ∷ [] }) = λ name differs. record { portals = refl; signals = find-push_other (is_post name) net.signals post differs; boards = refl } in
      record {
        distinct = distinct_signal net post is.distinct none role;
        portals = is.portals;
        signals = all_push (is_sound_post Signal net.sections) net.signals post is.signals (new_post Signal role);
        boards = is.boards;
        turns = turns_kept (record net { signals = net.signals ++ post ∷ [] }) same;
        routes = routes_kept (record net { signals = net.signals ++ post ∷ [] }) refl same;
      }

  pub sound_with_board : post.role ≡ Board → IsSoundNetwork (record net { boards = net.boards ++ post ∷ [] })
  sound_with_board role =
      let same : OthersSame (record net { boards = net.boards ++ post ∷ [] }) = λ name differs. record { portals = refl; signals = refl; boards = find-push_other (is_post name) net.boards post differs } in
      record {
        distinct = distinct_board net post is.distinct none role;
        portals = is.portals;
        signals = is.signals;
        boards = all_push (is_sound_post Board net.sections) net.boards post is.boards (new_post Board role);
        turns = turns_kept (record net { boards = net.boards ++ post ∷ [] }) same;
        routes = routes_kept (record net { boards = net.boards ++ post ∷ [] }) refl same;
      }

module _ (net : Net) (name : List ℕ) (is : IsSoundNetwork net) (unused : is_post_used net name ≡ false) where
  same_without : (other : List ℕ) → same_name name other ≡ false → IsSameNamed net (without_post name net) other
  same_without other differs =
      let gone : (post : Post) → is_post name post ≡ true → is_post other post ≡ false = λ post same. ap (same_name other) (sym (same_from_name name post.name same)) ∙ same_name-comm other name ∙ differs in
      record {
        portals = find-without_other (is_post other) (is_post name) gone net.portals;
        signals = find-without_other (is_post other) (is_post name) gone net.signals;
        boards = find-without_other (is_post other) (is_post name) gone net.boards;
      }

  neither : (b c : Bool) → (b || (c || false)) ≡ false → (b ≡ false) × (c ≡ false)
  neither true c h = cc
  neither false true h = cc
  neither false false h = (refl, refl)

  pub sound_without_post : IsSoundNetwork (without_post name net)
  sound_without_post =
      let free = both_false (list_any (turns_at name) net.turns) (list_any (goes_to name) net.routes) unused in
      record {
        distinct = distinct_without_post net name is.distinct;
        portals = list_all-without (is_post name) (is_sound_post Portal net.sections) net.portals is.portals;
        signals = list_all-without (is_post name) (is_sound_post Signal net.sections) net.signals is.signals;
        boards = list_all-without (is_post name) (is_sound_post Board net.sections) net.boards is.boards;
        turns = all_kept (is_sound_turn (without_post name net)) (is_sound_turn net) (turns_at name)
            (λ turn h away. let n = neither (same_name name turn.arriving) (same_name name turn.leaving) away in turn_same net (without_post name net) turn (same_without turn.arriving n.0) (same_without turn.leaving n.1) ∙ h) net.turns is.turns free.0;
        routes = all_kept (is_sound_route (without_post name net)) (is_sound_route net) (goes_to name)
            (λ route h away. let n = neither (same_name name route.from) (same_name name route.to) away in route_same net (without_post name net) route refl (same_without route.from n.0) (same_without route.to n.1) ∙ h) net.routes is.routes free.1;
      }
