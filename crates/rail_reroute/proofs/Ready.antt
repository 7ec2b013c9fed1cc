-- What is read can be judged.
use Rattle.std.proofs.Common.{◌≡◌, ℕ, zero, suc, ◌<◌, ◌≤◌, Bool, true, false, not, ◌&&◌, ◌||◌, List, [], ◌∷◌, length, get_or, is_some, unwrap_or, Option, Some, None, refl, sym, ap, ◌∙◌, arith}
use Rattle.std.specs.Prelude.{nat_le, nat_lt}
use Rattle.std.specs.List.{list_all, list_any}
use Rattle.std.proofs.lemmas.Bool.{and_from, and_parts, leb-true, lt-ltb}
use Rattle.std.proofs.lemmas.List.{length-map}
use Rattle.std.proofs.lemmas.List.Quantifiers.{position-Some}
use Rattle.rail_base.specs.FirstRefusals.{first_failing}
use Rattle.rail_base.specs.NameForms.{is_name, same_name}
use Rattle.rail_base.proofs.CallerLemmas.{all_passed}
use Rattle.rail_routes.specs.declared.items.Route.{Route}
use Rattle.rail_scene.specs.declared.scene.Scene.{Scene}
use Rattle.rail_scene.specs.declared.scene.SceneTrain.{SceneTrain}
use Rattle.rail_text.specs.Lines.{Line, number_of_name}
use Rattle.rail_text.proofs.CallerLemmas.{found_at}
use Rattle.rail_track.proofs.CallerLemmas.{list_any-map}
use Rattle.rail_compile.specs.Refusals.{are_known, is_known}
use Rattle.rail_reroute.specs.Proposals.{are_in, is_in_names, is_proposal, is_ready, line_tests, lines_refusal, proposal_on, proposals_on, route_names, train_names}
use Rattle.rail_reroute.proofs.Itineraries.{both_none}
use Rattle.rail_reroute.proofs.JoinedLines.{apart}

passed : (b : Bool) → not b ≡ false → b ≡ true
passed true is = refl
passed false is = cc

-- where one passes, some do
any_at : {X : Type 0} (test : X → Bool) (xs : List X) (k : ℕ) (d : X) → k < length xs → test (get_or xs k d) ≡ true → list_any test xs ≡ true
any_at test [] k d lt one = absurd (omega (arith, lt))
any_at test (x ∷ xs) zero d lt one = ap (λ b. b || list_any test xs) one
any_at test (x ∷ xs) (suc k) d lt one = ap (λ b. test x || b) (any_at test xs k d (omega (arith, lt)) one) ∙ or_true (test x)
  where
    or_true : (b : Bool) → (b || true) ≡ true
    or_true true = refl
    or_true false = refl

-- a name that is found among names is one of them
known_among : (names : List (List ℕ)) (name : List ℕ) → is_in_names names name ≡ true → list_any (same_name name) names ≡ true
known_among names name known = by (number_of_name names name) refl known
  where
    by : (o : Option ℕ) → number_of_name names name ≡ o → is_some o ≡ true → list_any (same_name name) names ≡ true
    by None is some = cc
    by (Some k) is some = let found = position-Some (same_name name) names k [] is in any_at (same_name name) names k [] found.0 found.1

module _ (scene : Scene) where
  number_within : (name : List ℕ) → is_in_names (train_names scene) name ≡ true → nat_lt (unwrap_or (number_of_name (train_names scene) name) 0) (length scene.trains) ≡ true
  number_within name known = by (number_of_name (train_names scene) name) refl known
    where
      by : (o : Option ℕ) → number_of_name (train_names scene) name ≡ o → is_some o ≡ true → nat_lt (unwrap_or o 0) (length scene.trains) ≡ true
      by None is some = cc
      by (Some k) is some = lt-ltb k (length scene.trains) (omega (arith, (found_at (same_name name) (train_names scene) k is).1, length-map scene.trains (λ (train : SceneTrain). train.name)))

  routes_known : (names : List (List ℕ)) → list_all (is_in_names (route_names scene)) names ≡ true → are_known scene.network names ≡ true
  routes_known [] known = refl
  routes_known (name ∷ rest) known =
      let both = and_parts (is_in_names (route_names scene) name) (list_all (is_in_names (route_names scene)) rest) known in
      and_from (is_known scene.network name) (are_known scene.network rest)
      (sym (list_any-map (same_name name) (λ (route : Route). route.name) scene.network.routes) ∙ known_among (route_names scene) name both.0)
      (routes_known rest both.1)

  ready_words : (n : ℕ) (words : List (List ℕ)) → is_proposal words ≡ true → are_in (train_names scene) (route_names scene) words ≡ true
      → is_ready scene (proposal_on (train_names scene) (record { number = n; words = words })) ≡ true
  ready_words n [] form known = cc
  ready_words n (train ∷ names) form known =
      let long : 2 ≤ length (train ∷ names) = leb-true 2 (length (train ∷ names)) (and_parts (nat_le 2 (length (train ∷ names))) (list_all is_name (train ∷ names)) form).0 in
      let both = and_parts (is_in_names (train_names scene) train) (list_all (is_in_names (route_names scene)) names) known in
      let t : ℕ = unwrap_or (number_of_name (train_names scene) train) 0 in
      and_from (nat_lt t (length scene.trains) && nat_lt 0 (length names)) (are_known scene.network names)
      (and_from (nat_lt t (length scene.trains)) (nat_lt 0 (length names)) (number_within train both.0) (lt-ltb 0 (length names) (omega (arith, long))))
      (routes_known names both.1)

  -- where no line is refused, each proposal can be judged
  pub all_ready : (lines : List Line) → lines_refusal (train_names scene) (route_names scene) lines ≡ None → list_all (is_ready scene) (proposals_on (train_names scene) lines) ≡ true
  all_ready [] none = refl
  all_ready (line ∷ rest) none =
      let both = both_none (first_failing (line_tests (train_names scene) (route_names scene) line)) (lines_refusal (train_names scene) (route_names scene) rest) (sym (apart (train_names scene) (route_names scene) line rest) ∙ none) in
      let pass = all_passed (line_tests (train_names scene) (route_names scene) line) both.0 in
      and_from (is_ready scene (proposal_on (train_names scene) line)) (list_all (is_ready scene) (proposals_on (train_names scene) rest))
      (ready_words line.number line.words (passed (is_proposal line.words) pass.0) (passed (are_in (train_names scene) (route_names scene) line.words) pass.1.0))
      (all_ready rest both.1)
