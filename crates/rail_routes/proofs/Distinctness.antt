-- Distinct networks stay distinct.
use Rattle.std.proofs.Common.{◌≡◌, ℕ, ◌+◌, ◌≤◌, ◌<◌, Bool, true, false, not, ◌||◌, List, [], ◌∷◌, ◌++◌, length, count_by, nat_le, Option, Some, None, refl, sym, ap, ◌∙◌, ◌⊎◌, inl, inr, arith}
use Rattle.std.specs.List.{list_any}
use Rattle.std.specs.Option.{option_map_or}
use Rattle.std.proofs.lemmas.List.{length_push}
use Rattle.std.proofs.lemmas.List.Sums.{sum_by-append}
use Rattle.std.proofs.lemmas.Bool.Decides.{nat_tests}
use Rattle.rail_base.specs.NameForms.{same_name}
use Rattle.rail_base.specs.declared.limits.TheConstants.{POSTS, TURNS}
use Rattle.rail_track.specs.declared.section.Section.{Section}
use Rattle.rail_track.specs.Lists.{without}
use Rattle.rail_track.specs.SoundTracks.{IsSoundTrack}
use Rattle.rail_base.proofs.CallerLemmas.{all_passed}
use Rattle.rail_track.proofs.CallerLemmas.{same_from_name, count_by_none, count_by-without-le, length-without-le}
use Rattle.rail_routes.specs.declared.items.Post.{Post}
use Rattle.rail_routes.specs.declared.items.Turn.{Turn}
use Rattle.rail_routes.specs.declared.items.Route.{Route}
use Rattle.rail_routes.specs.declared.items.PostRole.TheVariants.{Portal, Signal, Board}
use Rattle.rail_routes.specs.Net.{Net, posts, is_post, is_turn, is_route, stands_at, guards, guards_at}
use Rattle.rail_routes.specs.PostRules.{post_tests, post_refusal, is_taken_as, stands_well}
use Rattle.rail_routes.specs.TurnRules.{turn_tests, turn_refusal}
use Rattle.rail_routes.specs.RouteRules.{route_tests, route_refusal}
use Rattle.rail_routes.specs.PostChanges.{without_post}
use Rattle.rail_routes.specs.DistinctNetworks.{IsDistinctNetwork}
use Rattle.rail_routes.proofs.Places.{one_if, count_by-push}
use Rattle.rail_routes.proofs.Tables.{route_fits}
use Rattle.rail_routes.proofs.Lists.{both_true, both_false}

-- one more of what was not there
at_most_one : (total : ℕ) (same : Bool) → (same ≡ true → total ≡ 0) → total ≤ 1 → total + one_if same ≤ 1
at_most_one total true none few = omega (arith, none refl)
at_most_one total false none few = omega arith

second_false : (b c : Bool) → (b || c) ≡ false → c ≡ false
second_false true c h = cc
second_false false c h = h

pub distinct_sections : (net : Net) (sections : List Section) → IsDistinctNetwork net → IsSoundTrack sections → IsDistinctNetwork (record net { sections = sections })
distinct_sections net sections is sound = record {
  track = sound;
  few_posts = is.few_posts;
  few_turns = is.few_turns;
  few_routes = is.few_routes;
  posts_by_name = is.posts_by_name;
  ends_by_joint = is.ends_by_joint;
  signals_by_place = is.signals_by_place;
  turns_by_posts = is.turns_by_posts;
  routes_by_name = is.routes_by_name;
}

-- what the tests of an accepted post say of its name and place
record IsFresh (net : Net) (post : Post) : Type 0 where
  room : length net.portals + length net.signals + length net.boards < 512
  named : count_by (is_post post.name) net.portals + count_by (is_post post.name) net.signals + count_by (is_post post.name) net.boards ≡ 0
  placed : is_taken_as post.role net post ≡ false

fresh : (net : Net) (post : Post) → post_refusal net post ≡ None → IsFresh net post
fresh net post none =
    let a = all_passed (post_tests net post) none in
    let full : nat_le POSTS (length net.portals + length net.signals + length net.boards) ≡ false = a.0 in
    let f : Post → ℕ = λ other. one_if (is_post post.name other) in
    let zero : count_by (is_post post.name) (net.portals ++ net.signals ++ net.boards) ≡ 0 = count_by_none (is_post post.name) (posts net) a.1.1.1.1.0 in
    record {
      room = grind (arith, nat_tests);
      named = omega (arith, zero, sum_by-append f (net.portals ++ net.signals) net.boards, sum_by-append f net.portals net.signals);
      placed = second_false (not (stands_well net.sections post)) (is_taken_as post.role net post) a.1.1.1.1.1.1.0;
    }

module _ (net : Net) (post : Post) (is : IsDistinctNetwork net) (none : post_refusal net post ≡ None) where
  new : IsFresh net post
  new = fresh net post none

  by_name : (name : List ℕ) → (count_by (is_post name) net.portals + count_by (is_post name) net.signals + count_by (is_post name) net.boards) + one_if (is_post name post) ≤ 1
  by_name name =
      let total : List ℕ → ℕ = λ n. count_by (is_post n) net.portals + count_by (is_post n) net.signals + count_by (is_post n) net.boards in
      at_most_one (total name) (is_post name post) (λ same. ap total (same_from_name name post.name same) ∙ new.named) (is.posts_by_name name)

  free : (post.role ≡ Portal) ⊎ (post.role ≡ Board) → count_by (stands_at post.joint) net.portals + count_by (stands_at post.joint) net.boards ≡ 0
  free role = by role new.placed
    where
      none_there : (list_any (stands_at post.joint) net.portals || list_any (stands_at post.joint) net.boards) ≡ false → count_by (stands_at post.joint) net.portals + count_by (stands_at post.joint) net.boards ≡ 0
      none_there h =
          let b = both_false (list_any (stands_at post.joint) net.portals) (list_any (stands_at post.joint) net.boards) h in
          omega (arith, count_by_none (stands_at post.joint) net.portals b.0, count_by_none (stands_at post.joint) net.boards b.1)

      by : (post.role ≡ Portal) ⊎ (post.role ≡ Board) → is_taken_as post.role net post ≡ false → count_by (stands_at post.joint) net.portals + count_by (stands_at post.joint) net.boards ≡ 0
      by (inl e) h = none_there (sym (ap (λ r. is_taken_as r net post) e) ∙ h)
      by (inr e) h = none_there (sym (ap (λ r. is_taken_as r net post) e) ∙ h)

  by_joint : (post.role ≡ Portal) ⊎ (post.role ≡ Board) → (joint : List ℕ) → (count_by (stands_at joint) net.portals + count_by (stands_at joint) net.boards) + one_if (stands_at joint post) ≤ 1
  by_joint role joint =
      let total : List ℕ → ℕ = λ j. count_by (stands_at j) net.portals + count_by (stands_at j) net.boards in
      at_most_one (total joint) (stands_at joint post) (λ same. ap total (same_from_name joint post.joint same) ∙ free role) (is.ends_by_joint joint)

  by_place : post.role ≡ Signal → (joint ahead : List ℕ) → count_by (guards_at joint ahead) net.signals + one_if (guards_at joint ahead post) ≤ 1
  by_place role joint ahead =
      at_most_one (count_by (guards_at joint ahead) net.signals) (guards_at joint ahead post) (λ same. there post.ahead refl (both_true (stands_at joint post) (guards ahead post) same)) (is.signals_by_place joint ahead)
    where
      there : (o : Option (List ℕ)) → post.ahead ≡ o → (stands_at joint post ≡ true) × (guards ahead post ≡ true) → count_by (guards_at joint ahead) net.signals ≡ 0
      there None e h = let never : guards ahead post ≡ false = ap (λ o. option_map_or (same_name ahead) o false) e in cc
      there (Some section) e h =
          let own : same_name ahead section ≡ true = sym (ap (λ o. option_map_or (same_name ahead) o false) e) ∙ h.1 in
          let placed : list_any (guards_at post.joint section) net.signals ≡ false =
          sym (ap (λ o. option_map_or (λ a. list_any (guards_at post.joint a) net.signals) o false) e) ∙ sym (ap (λ r. is_taken_as r net post) role) ∙ new.placed in
          (λ i. count_by (guards_at (same_from_name joint post.joint h.0 i) (same_from_name ahead section own i)) net.signals) ∙ count_by_none (guards_at post.joint section) net.signals placed

  pub distinct_portal : post.role ≡ Portal → IsDistinctNetwork (record net { portals = net.portals ++ post ∷ [] })
  distinct_portal role = record {
    track = is.track;
    few_posts = omega (arith, length_push net.portals post, new.room);
    few_turns = is.few_turns;
    few_routes = is.few_routes;
    posts_by_name = λ name. omega (arith, count_by-push (is_post name) net.portals post, by_name name);
    ends_by_joint = λ joint. omega (arith, count_by-push (stands_at joint) net.portals post, by_joint (inl role) joint);
    signals_by_place = is.signals_by_place;
    turns_by_posts = is.turns_by_posts;
    routes_by_name = is.routes_by_name;
  }

  pub distinct_signal : post.role ≡ Signal → IsDistinctNetwork (record net { signals = net.signals ++ post ∷ [] })
  distinct_signal role = record {
    track = is.track;
    few_posts = omega (arith, length_push net.signals post, new.room);
    few_turns = is.few_turns;
    few_routes = is.few_routes;
    posts_by_name = λ name. omega (arith, count_by-push (is_post name) net.signals post, by_name name);
    ends_by_joint = is.ends_by_joint;
    signals_by_place = λ joint ahead. omega (arith, count_by-push (guards_at joint ahead) net.signals post, by_place role joint ahead);
    turns_by_posts = is.turns_by_posts;
    routes_by_name = is.routes_by_name;
  }

  pub distinct_board : post.role ≡ Board → IsDistinctNetwork (record net { boards = net.boards ++ post ∷ [] })
  distinct_board role = record {
    track = is.track;
    few_posts = omega (arith, length_push net.boards post, new.room);
    few_turns = is.few_turns;
    few_routes = is.few_routes;
    posts_by_name = λ name. omega (arith, count_by-push (is_post name) net.boards post, by_name name);
    ends_by_joint = λ joint. omega (arith, count_by-push (stands_at joint) net.boards post, by_joint (inr role) joint);
    signals_by_place = is.signals_by_place;
    turns_by_posts = is.turns_by_posts;
    routes_by_name = is.routes_by_name;
  }

pub distinct_without_post : (net : Net) (name : List ℕ) → IsDistinctNetwork net → IsDistinctNetwork (without_post name net)
distinct_without_post net name is =
    let test = is_post name in
    record {
      track = is.track;
      few_posts = omega (arith, is.few_posts, length-without-le test net.portals, length-without-le test net.signals, length-without-le test net.boards);
      few_turns = is.few_turns;
      few_routes = is.few_routes;
      posts_by_name = λ n. omega (arith, is.posts_by_name n, count_by-without-le test (is_post n) net.portals, count_by-without-le test (is_post n) net.signals, count_by-without-le test (is_post n) net.boards);
      ends_by_joint = λ joint. omega (arith, is.ends_by_joint joint, count_by-without-le test (stands_at joint) net.portals, count_by-without-le test (stands_at joint) net.boards);
      signals_by_place = λ joint ahead. omega (arith, is.signals_by_place joint ahead, count_by-without-le test (guards_at joint ahead) net.signals);
      turns_by_posts = is.turns_by_posts;
      routes_by_name = is.routes_by_name;
    }

pub distinct_turn : (net : Net) (turn : Turn) → IsDistinctNetwork net → turn_refusal net turn ≡ None → IsDistinctNetwork (record net { turns = net.turns ++ turn ∷ [] })
distinct_turn net turn is none =
    let a = all_passed (turn_tests net turn) none in
    let full : nat_le TURNS (length net.turns) ≡ false = a.0 in
    let zero : count_by (is_turn turn.arriving turn.leaving) net.turns ≡ 0 = count_by_none (is_turn turn.arriving turn.leaving) net.turns a.1.1.0 in
    record {
      track = is.track;
      few_posts = is.few_posts;
      few_turns = let longer = length_push net.turns turn in grind (arith, nat_tests);
      few_routes = is.few_routes;
      posts_by_name = is.posts_by_name;
      ends_by_joint = is.ends_by_joint;
      signals_by_place = is.signals_by_place;
      turns_by_posts = λ arriving leaving.
          omega (
            arith,
            count_by-push (is_turn arriving leaving) net.turns turn,
            at_most_one (count_by (is_turn arriving leaving) net.turns) (is_turn arriving leaving turn)
                (λ same. let b = both_true (same_name arriving turn.arriving) (same_name leaving turn.leaving) same in (λ i. count_by (is_turn (same_from_name arriving turn.arriving b.0 i) (same_from_name leaving turn.leaving b.1 i)) net.turns) ∙ zero)
                (is.turns_by_posts arriving leaving),
          );
      routes_by_name = is.routes_by_name;
    }

pub distinct_without_turn : (net : Net) (p : Turn → Bool) → IsDistinctNetwork net → IsDistinctNetwork (record net { turns = without p net.turns })
distinct_without_turn net p is = record {
  track = is.track;
  few_posts = is.few_posts;
  few_turns = omega (arith, is.few_turns, length-without-le p net.turns);
  few_routes = is.few_routes;
  posts_by_name = is.posts_by_name;
  ends_by_joint = is.ends_by_joint;
  signals_by_place = is.signals_by_place;
  turns_by_posts = λ arriving leaving. omega (arith, is.turns_by_posts arriving leaving, count_by-without-le p (is_turn arriving leaving) net.turns);
  routes_by_name = is.routes_by_name;
}

pub distinct_route : (net : Net) (route : Route) → IsDistinctNetwork net → route_refusal net route ≡ None → IsDistinctNetwork (record net { routes = net.routes ++ route ∷ [] })
distinct_route net route is none =
    let a = all_passed (route_tests net route) none in
    let fits = route_fits net route none in
    let zero : count_by (is_route route.name) net.routes ≡ 0 = count_by_none (is_route route.name) net.routes a.1.1.1.0 in
    record {
      track = is.track;
      few_posts = is.few_posts;
      few_turns = is.few_turns;
      few_routes = omega (arith, length_push net.routes route, fits.0);
      posts_by_name = is.posts_by_name;
      ends_by_joint = is.ends_by_joint;
      signals_by_place = is.signals_by_place;
      turns_by_posts = is.turns_by_posts;
      routes_by_name = λ name.
          omega (
            arith,
            count_by-push (is_route name) net.routes route,
            at_most_one (count_by (is_route name) net.routes) (is_route name route) (λ same. ap (λ n. count_by (is_route n) net.routes) (same_from_name name route.name same) ∙ zero) (is.routes_by_name name),
          );
    }

pub distinct_without_route : (net : Net) (p : Route → Bool) → IsDistinctNetwork net → IsDistinctNetwork (record net { routes = without p net.routes })
distinct_without_route net p is = record {
  track = is.track;
  few_posts = is.few_posts;
  few_turns = is.few_turns;
  few_routes = omega (arith, is.few_routes, length-without-le p net.routes);
  posts_by_name = is.posts_by_name;
  ends_by_joint = is.ends_by_joint;
  signals_by_place = is.signals_by_place;
  turns_by_posts = is.turns_by_posts;
  routes_by_name = λ name. omega (arith, is.routes_by_name name, count_by-without-le p (is_route name) net.routes);
}

pub distinct_empty : (net : Net) → IsSoundTrack net.sections → net.portals ≡ [] → net.signals ≡ [] → net.boards ≡ [] → net.turns ≡ [] → net.routes ≡ [] → IsDistinctNetwork net
distinct_empty net sound p s b t r =
    record {
      track = sound;
      few_posts = omega (arith, ap length p, ap length s, ap length b);
      few_turns = omega (arith, ap length t);
      few_routes = omega (arith, ap length r);
      posts_by_name = λ name. omega (arith, ap (count_by (is_post name)) p, ap (count_by (is_post name)) s, ap (count_by (is_post name)) b);
      ends_by_joint = λ joint. omega (arith, ap (count_by (stands_at joint)) p, ap (count_by (stands_at joint)) b);
      signals_by_place = λ joint ahead. omega (arith, ap (count_by (guards_at joint ahead)) s);
      turns_by_posts = λ arriving leaving. omega (arith, ap (count_by (is_turn arriving leaving)) t);
      routes_by_name = λ name. omega (arith, ap (count_by (is_route name)) r);
    }
