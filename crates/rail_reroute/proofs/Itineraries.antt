-- The tests of trains, one of which takes other routes.
use Rattle.std.proofs.Common.{◌≡◌, ℕ, zero, suc, ◌+◌, ◌<◌, ◌≤◌, Bool, true, false, not, cond, List, [], ◌∷◌, ◌++◌, length, set, Option, Some, None, refl, sym, ap, ◌∙◌, subst, arith}
use Rattle.std.specs.Option.{option_or}
use Rattle.rail_base.specs.FirstRefusals.{Test, first_failing}
use Rattle.rail_base.specs.Limits.{most, ItineraryRoutes}
use Rattle.rail_base.specs.declared.refusals.Reason.{Reason}
use Rattle.rail_base.specs.declared.refusals.Reason.TheVariants as reason
use Rattle.rail_base.specs.declared.refusals.Refusal.{Refusal}
use Rattle.rail_base.proofs.CallerLemmas.{first_failing-append}
use Rattle.rail_routes.specs.Net.{Net}
use Rattle.rail_routes.specs.declared.items.Route.{Route}
use Rattle.rail_scene.specs.declared.scene.Scene.{Scene}
use Rattle.rail_scene.specs.declared.scene.SceneTrain.{SceneTrain}
use Rattle.rail_compile.specs.Itineraries.{goes_on_to, with_trains}
use Rattle.rail_compile.specs.Refusals.{begins_at_portal, ends_at_portal, of_train, place_tests, route_tests, train_refused, train_tests, trains_tests}
use Rattle.rail_reroute.specs.Judgements.{IsItineraryRefusal, is_itinerary_reason}

or_none : (o : Option Refusal) → option_or o None ≡ o
or_none None = refl
or_none (Some r) = refl

-- where neither of two is there
pub both_none : {X : Type 0} (o other : Option X) → option_or o other ≡ None → (o ≡ None) × (other ≡ None)
both_none None other none = (refl, none)
both_none (Some r) other none = cc

module _ (scene : Scene) where
  apart : (n : ℕ) (train : SceneTrain) (rest : List SceneTrain) → first_failing (trains_tests scene n (train ∷ rest)) ≡ option_or (first_failing (train_tests scene n train)) (first_failing (trains_tests scene (suc n) rest))
  apart n train rest = first_failing-append (train_tests scene n train) (trains_tests scene (suc n) rest)

-- the tests of a scene's trains look at its kinds and its network alone
module _ (scene : Scene) (others : List SceneTrain) where
  same_tests : (n : ℕ) (trains : List SceneTrain) → trains_tests (with_trains scene others) n trains ≡ trains_tests scene n trains
  same_tests n [] = refl
  same_tests n (train ∷ rest) = ap (λ (tests : List (Test Refusal)). train_tests scene n train ++ tests) (same_tests (suc n) rest)

  -- where no train is refused, and one is changed, the first test that fails is one of that train
  pub changed_tests : (n : ℕ) (trains : List SceneTrain) (t : ℕ) (row : SceneTrain) → first_failing (trains_tests scene n trains) ≡ None → t < length trains
      → first_failing (trains_tests (with_trains scene others) n (set trains t row)) ≡ first_failing (train_tests scene (n + t) row)
  changed_tests n [] t row none lt = absurd (omega (arith, lt))
  changed_tests n (first ∷ rest) zero row none lt =
      let both = both_none (first_failing (train_tests scene n first)) (first_failing (trains_tests scene (suc n) rest)) (sym (apart scene n first rest) ∙ none) in
      let same : n ≡ n + zero = omega arith in
      apart (with_trains scene others) n row rest
      ∙ ap (option_or (first_failing (train_tests scene n row))) (ap (first_failing {R = Refusal}) (same_tests (suc n) rest) ∙ both.1)
      ∙ or_none (first_failing (train_tests scene n row))
      ∙ ap (λ k. first_failing (train_tests scene k row)) same
  changed_tests n (first ∷ rest) (suc t) row none lt =
      let both = both_none (first_failing (train_tests scene n first)) (first_failing (trains_tests scene (suc n) rest)) (sym (apart scene n first rest) ∙ none) in
      let same : suc n + t ≡ n + suc t = omega arith in
      apart (with_trains scene others) n first (set rest t row)
      ∙ ap (λ o. option_or o (first_failing (trains_tests (with_trains scene others) (suc n) (set rest t row)))) both.0
      ∙ changed_tests (suc n) rest t row both.1 (omega (arith, lt))
      ∙ ap (λ k. first_failing (train_tests scene k row)) same

-- a refusal of the train for its itinerary
pub told_at : (t : ℕ) (why : Reason) (place : ℕ) (r : Refusal) → is_itinerary_reason why ≡ true → place ≤ most ItineraryRoutes → Some (of_train why (suc t) place) ≡ Some r → IsItineraryRefusal t r
told_at t why place r itinerary le is =
    let same : of_train why (suc t) place ≡ r = cc in
    subst (IsItineraryRefusal t) same (record { told = refl; itinerary = itinerary; place = le })

-- so it is where the first of more tests tells one
first_told : (t : ℕ) (why : Reason) (place : ℕ) (r : Refusal) → is_itinerary_reason why ≡ true → place ≤ most ItineraryRoutes → (rest : Option Refusal) → (rest ≡ Some r → IsItineraryRefusal t r)
    → (fails : Bool) → cond fails (Some (of_train why (suc t) place)) rest ≡ Some r → IsItineraryRefusal t r
first_told t why place r itinerary le rest later true is = told_at t why place r itinerary le is
first_told t why place r itinerary le rest later false is = later is

none_told : (t : ℕ) (r : Refusal) → None ≡ Some r → IsItineraryRefusal t r
none_told t r is = cc

-- the first of the tests of the places and of the end
places_told : (net : Net) (t last : ℕ) (ends : Bool) (r : Refusal) → last ≤ most ItineraryRoutes → (place : ℕ) (routes : List Route) → place + length routes ≤ suc last
    → first_failing (place_tests net (suc t) place routes ++ train_refused reason.NotPortal (suc t) last ends ∷ []) ≡ Some r → IsItineraryRefusal t r
places_told net t last ends r few place [] le is = first_told t reason.NotPortal last r refl few None (none_told t r) ends is
places_told net t last ends r few place (route ∷ []) le is = first_told t reason.NotPortal last r refl few None (none_told t r) ends is
places_told net t last ends r few place (route ∷ next ∷ rest) le is =
    first_told t reason.ItineraryBroken place r refl (omega (arith, le, few))
    (first_failing (place_tests net (suc t) (suc place) (next ∷ rest) ++ train_refused reason.NotPortal (suc t) last ends ∷ []))
    (λ later. places_told net t last ends r few (suc place) (next ∷ rest) (omega (arith, le)) later) (not (goes_on_to net route next)) is

-- where the tests of an itinerary fail, the first tells of the itinerary
pub route_told : (net : Net) (t : ℕ) (routes : List Route) (r : Refusal) → length routes ≤ most ItineraryRoutes → first_failing (route_tests net (suc t) routes) ≡ Some r → IsItineraryRefusal t r
route_told net t routes r few is =
    first_told t reason.NotPortal 0 r refl (omega arith)
    (first_failing (place_tests net (suc t) 1 routes ++ train_refused reason.NotPortal (suc t) (length routes) (not (ends_at_portal net routes)) ∷ []))
    (λ later. places_told net t (length routes) (not (ends_at_portal net routes)) r few 1 routes (omega arith) later) (not (begins_at_portal net routes)) is
