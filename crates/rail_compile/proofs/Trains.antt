-- The tests of the trains, train by train.
use Rattle.std.proofs.Common.{◌≡◌, ℕ, zero, suc, ◌+◌, ◌<◌, ◌≤◌, Bool, true, false, not, cond, List, [], ◌∷◌, ◌++◌, length, get_or, drop, map, is_some, Option, Some, None, refl, sym, ap, ◌∙◌, subst, ⊎_elim, arith}
use Rattle.std.proofs.lemmas.Bool.{cases_lt}
use Rattle.std.specs.List.{list_any}
use Rattle.std.specs.Option.{option_or}
use Rattle.std.proofs.lemmas.List.{drop_more, get_or_default}
use Rattle.rail_base.specs.NameForms.{same_name}
use Rattle.rail_base.specs.declared.plant.TrainKind.{TrainKind}
use Rattle.rail_base.specs.declared.refusals.Fault.{Fault}
use Rattle.rail_base.specs.declared.refusals.Fault.TheVariants.{Refused, OutOfMemory}
use Rattle.rail_base.specs.declared.refusals.Refusal.{Refusal}
use Rattle.rail_base.specs.Refusals.{AnswersFirst}
use Rattle.rail_base.specs.declared.refusals.Reason.TheVariants as reason
use Rattle.rail_base.specs.FirstRefusals.{first_failing}
use Rattle.rail_base.proofs.CallerLemmas.{AllPassed, all_passed, first_failing-append, none_failing}
use Rattle.rail_track.proofs.CallerLemmas.{list_any-map}
use Rattle.rail_scene.specs.declared.scene.Scene.{Scene}
use Rattle.rail_scene.specs.declared.scene.SceneTrain.{SceneTrain}
use Rattle.rail_routes.specs.declared.items.Route.{Route}
use Rattle.rail_routes.specs.Net.{Net}
use Rattle.rail_compile.specs.Itineraries.{routes_of}
use Rattle.rail_compile.specs.Refusals.{are_known, ends_at_portal, of_train, place_tests, route_tests, train_refused, train_tests, trains_tests}
use Rattle.rail_compile.proofs.Places.{or-some, or-none}

-- a train in front of those after it
train_ahead : (scene : Scene) (trains : List SceneTrain) (i : ℕ) (train : SceneTrain) → i < length trains → train ≡ get_or trains i train →
    first_failing (trains_tests scene (i + 1) (drop i trains)) ≡ option_or (first_failing (train_tests scene (i + 1) train)) (first_failing (trains_tests scene (i + 1 + 1) (drop (i + 1) trains)))
train_ahead scene trains i train lt is =
    let step : drop i trains ≡ train ∷ drop (i + 1) trains = drop_more trains i train lt ∙ ap (λ t. t ∷ drop (i + 1) trains) (sym is) in
    let next : suc (i + 1) ≡ i + 1 + 1 = omega arith in
    ap (λ rest. first_failing (trains_tests scene (i + 1) rest)) step
    ∙ first_failing-append (train_tests scene (i + 1) train) (trains_tests scene (suc (i + 1)) (drop (i + 1) trains))
    ∙ ap (λ k. option_or (first_failing (train_tests scene (i + 1) train)) (first_failing (trains_tests scene k (drop (i + 1) trains)))) next

pub train_refused_at : (scene : Scene) (trains : List SceneTrain) (i : ℕ) (train : SceneTrain) (o : Option Refusal) → i < length trains →
    train ≡ get_or trains i train → o ≡ first_failing (train_tests scene (i + 1) train) → is_some o ≡ true →
    first_failing (trains_tests scene (i + 1) (drop i trains)) ≡ o
train_refused_at scene trains i train o lt is told some =
    train_ahead scene trains i train lt is
    ∙ ap (λ p. option_or p (first_failing (trains_tests scene (i + 1 + 1) (drop (i + 1) trains)))) (sym told)
    ∙ or-some o (first_failing (trains_tests scene (i + 1 + 1) (drop (i + 1) trains))) some

pub train_passed_at : (scene : Scene) (trains : List SceneTrain) (i : ℕ) (train : SceneTrain) (o : Option Refusal) → i < length trains →
    train ≡ get_or trains i train → o ≡ first_failing (train_tests scene (i + 1) train) → is_some o ≡ false →
    first_failing (trains_tests scene (i + 1) (drop i trains)) ≡ first_failing (trains_tests scene (i + 1 + 1) (drop (i + 1) trains))
train_passed_at scene trains i train o lt is told none =
    train_ahead scene trains i train lt is
    ∙ ap (λ p. option_or p (first_failing (trains_tests scene (i + 1 + 1) (drop (i + 1) trains)))) (sym told)
    ∙ or-none o (first_failing (trains_tests scene (i + 1 + 1) (drop (i + 1) trains))) none

-- the fault of a train is that of all, where no train before it is refused
pub answers_at : (scene : Scene) (trains : List SceneTrain) (i : ℕ) (train : SceneTrain) (fault : Fault) → i < length trains → train ≡ get_or trains i train →
    first_failing (trains_tests scene (i + 1) (drop i trains)) ≡ first_failing (trains_tests scene 1 trains) →
    AnswersFirst (first_failing (train_tests scene (i + 1) train)) fault → AnswersFirst (first_failing (trains_tests scene 1 trains)) fault
answers_at scene trains i train (Refused refusal) lt is passed told = sym passed ∙ train_refused_at scene trains i train (Some refusal) lt is (sym told) refl
answers_at scene trains i train OutOfMemory lt is passed told = tt

-- the tests of a train, with what they look at
pub train_is : (scene : Scene) (item : ℕ) (train : SceneTrain) (kind routes : Bool) →
    kind ≡ list_any (λ (k : TrainKind). same_name train.kind k.name) scene.kinds → routes ≡ are_known scene.network train.routes →
    first_failing (train_tests scene item train) ≡ cond (not kind) (Some (of_train reason.Unknown item 2)) (cond (not routes) (Some (of_train reason.Unknown item 5)) (first_failing (route_tests scene.network item (routes_of scene.network train.routes))))
train_is scene item train kind routes kind_is routes_are =
    λ i. cond (not (sym kind_is i)) (Some (of_train reason.Unknown item 2)) (cond (not (sym routes_are i)) (Some (of_train reason.Unknown item 5)) (first_failing (route_tests scene.network item (routes_of scene.network train.routes))))

-- a kind has a name that is among the names of the kinds
pub kind_among : (kinds : List TrainKind) (names : List (List ℕ)) (name : List ℕ) → names ≡ map (λ (k : TrainKind). k.name) kinds →
    list_any (same_name name) names ≡ list_any (λ (k : TrainKind). same_name name k.name) kinds
kind_among kinds names name same = ap (list_any (same_name name)) same ∙ list_any-map (same_name name) (λ (k : TrainKind). k.name) kinds

or-none-parts : (o other : Option Refusal) → option_or o other ≡ None → (o ≡ None) × (other ≡ None)
or-none-parts None other none = (refl, none)
or-none-parts (Some x) other none = absurd (cc)

-- a train that is not refused: its kind and its routes are known
pub record IsUnrefused (scene : Scene) (train : SceneTrain) : Type 0 where
  pub kind : list_any (λ (k : TrainKind). same_name train.kind k.name) scene.kinds ≡ true
  pub routes : are_known scene.network train.routes ≡ true
  pub ends : ends_at_portal scene.network (routes_of scene.network train.routes) ≡ true

-- the last of the tests passes: the itinerary ends at a portal
ends_found : (net : Net) (item place count : ℕ) (ends : Bool) (routes : List Route) →
    AllPassed (place_tests net item place routes ++ train_refused reason.NotPortal item count (not ends) ∷ []) → ends ≡ true
ends_found net item place count ends [] passed = not_false ends passed.0
  where
    not_false : (b : Bool) → not b ≡ false → b ≡ true
    not_false true is = refl
    not_false false is = sym is
ends_found net item place count ends (route ∷ []) passed = ends_found net item place count ends [] passed
ends_found net item place count ends (route ∷ next ∷ rest) passed = ends_found net item (suc place) count ends (next ∷ rest) passed.1

unrefused : (scene : Scene) (item : ℕ) (train : SceneTrain) (k r : Bool) → k ≡ list_any (λ (kind : TrainKind). same_name train.kind kind.name) scene.kinds → r ≡ are_known scene.network train.routes → first_failing (train_tests scene item train) ≡ None → IsUnrefused scene train
unrefused scene item train false r kind_is routes_are none = absurd (cc (train_is scene item train false r kind_is routes_are))
unrefused scene item train true false kind_is routes_are none = absurd (cc (train_is scene item train true false kind_is routes_are))
unrefused scene item train true true kind_is routes_are none =
    let routes = routes_of scene.network train.routes in
    let passed = all_passed (train_tests scene item train) none in
    record {
      kind = sym kind_is;
      routes = sym routes_are;
      ends = ends_found scene.network item 1 (length routes) (ends_at_portal scene.network routes) routes passed.1.1.1;
    }

-- where no train is refused, none of them is
pub unrefused_at : (scene : Scene) (item : ℕ) (trains : List SceneTrain) (i : ℕ) (train : SceneTrain) → first_failing (trains_tests scene item trains) ≡ None → i < length trains → train ≡ get_or trains i train → IsUnrefused scene train
unrefused_at scene item [] i train none lt is = absurd (omega arith)
unrefused_at scene item (first ∷ rest) zero train none lt is =
    let parts = or-none-parts (first_failing (train_tests scene item first)) (first_failing (trains_tests scene (suc item) rest)) (sym (first_failing-append (train_tests scene item first) (trains_tests scene (suc item) rest)) ∙ none) in
    let P : SceneTrain → Type 0 = λ t. IsUnrefused scene t in
    subst P (sym is) (unrefused scene item first (list_any (λ (k : TrainKind). same_name first.kind k.name) scene.kinds) (are_known scene.network first.routes) refl refl parts.0)
unrefused_at scene item (first ∷ rest) (suc i) train none lt is =
    let parts = or-none-parts (first_failing (train_tests scene item first)) (first_failing (trains_tests scene (suc item) rest)) (sym (first_failing-append (train_tests scene item first) (trains_tests scene (suc item) rest)) ∙ none) in
    unrefused_at scene (suc item) rest i train parts.1 (omega arith) is

-- which places and which end are passed does not depend on the number of the train
ends_passed : (net : Net) (item other place next_place count : ℕ) (fails : Bool) (routes : List Route) →
    AllPassed (place_tests net item place routes ++ train_refused reason.NotPortal item count fails ∷ []) →
    AllPassed (place_tests net other next_place routes ++ train_refused reason.NotPortal other count fails ∷ [])
ends_passed net item other place next_place count fails [] passed = (passed.0, tt)
ends_passed net item other place next_place count fails (route ∷ []) passed = (passed.0, tt)
ends_passed net item other place next_place count fails (route ∷ next ∷ rest) passed =
    (passed.0, ends_passed net item other (suc place) (suc next_place) count fails (next ∷ rest) passed.1)

-- a train that is not refused is not refused under another number
pub passed_under : (scene : Scene) (item other : ℕ) (train : SceneTrain) → first_failing (train_tests scene item train) ≡ None → first_failing (train_tests scene other train) ≡ None
passed_under scene item other train none =
    let routes = routes_of scene.network train.routes in
    let passed = all_passed (train_tests scene item train) none in
    none_failing (train_tests scene other train)
    (passed.0, (passed.1.0, (passed.1.1.0, ends_passed scene.network item other 1 1 (length routes) (not (ends_at_portal scene.network routes)) routes passed.1.1.1)))

-- a train of a known kind with the itinerary of one that is not refused is not refused
pub passed_behind : (scene : Scene) (item : ℕ) (train before : SceneTrain) → list_any (λ (k : TrainKind). same_name train.kind k.name) scene.kinds ≡ true →
    before.routes ≡ train.routes → first_failing (train_tests scene item before) ≡ None → first_failing (train_tests scene item train) ≡ None
passed_behind scene item train before kind same none =
    let P : List (List ℕ) → Type 0 = λ names. AllPassed (train_refused reason.Unknown item 5 (not (are_known scene.network names)) ∷ route_tests scene.network item (routes_of scene.network names)) in
    none_failing (train_tests scene item train) (ap not kind, subst P same (all_passed (train_tests scene item before) none).1)

-- no train that was looked at is refused
pub each_passed : (scene : Scene) (i : ℕ) (train : SceneTrain) → i < length scene.trains → train ≡ get_or scene.trains i train → first_failing (train_tests scene (i + 1) train) ≡ None
    → ((k : ℕ) (before : SceneTrain) → k < i → before ≡ get_or scene.trains k before → first_failing (train_tests scene (k + 1) before) ≡ None)
    → (k : ℕ) (before : SceneTrain) → k < i + 1 → before ≡ get_or scene.trains k before → first_failing (train_tests scene (k + 1) before) ≡ None
each_passed scene i train within here none each k before lt is =
    ⊎_elim
    (λ earlier. each k before earlier is)
    (λ last.
    let back : k ≡ i = omega (arith, lt, last) in
    let same : before ≡ train = is ∙ ap (λ n. get_or scene.trains n before) back ∙ get_or_default scene.trains i before train within ∙ sym here in
    ap (λ t. first_failing (train_tests scene (k + 1) t)) same ∙ passed_under scene (i + 1) (k + 1) train none)
    (cases_lt k i)
