-- The tests of an itinerary, route by route.
use Rattle.std.proofs.Common.{◌≡◌, ℕ, suc, ◌+◌, ◌-◌, ◌<◌, ◌≤◌, Bool, true, false, not, cond, List, [], ◌∷◌, length, get_or, drop, is_some, Option, Some, None, refl, sym, ap, ◌∙◌, ◌⊎◌, inl, inr, ⊎_elim, arith}
use Rattle.std.specs.Option.{option_or}
use Rattle.std.proofs.lemmas.Bool.{cases_lt, false≢true}
use Rattle.std.proofs.lemmas.List.{drop_more, drop_all}
use Rattle.rail_base.specs.declared.refusals.Refusal.{Refusal}
use Rattle.rail_base.specs.declared.refusals.Reason.TheVariants as reason
use Rattle.rail_base.specs.FirstRefusals.{first_failing}
use Rattle.rail_base.proofs.CallerLemmas.{first_failing-append}
use Rattle.rail_routes.specs.declared.items.Route.{Route}
use Rattle.rail_routes.specs.Net.{Net, no_route}
use Rattle.rail_compile.specs.Itineraries.{is_portal}
use Rattle.rail_compile.specs.Refusals.{of_train, train_refused, begins_at_portal, ends_at_portal, place_tests, route_tests}

few_left : (net : Net) (item place : ℕ) (routes : List Route) → length routes ≤ 1 → first_failing (place_tests net item place routes) ≡ None
few_left net item place [] few = refl
few_left net item place (route ∷ []) few = refl
few_left net item place (route ∷ next ∷ rest) few = absurd (omega arith)

-- to the last place
pub places_done : (net : Net) (item : ℕ) (routes : List Route) (place : ℕ) → 1 ≤ place → length routes ≤ place → first_failing (place_tests net item place (drop (place - 1) routes)) ≡ None
places_done net item routes place first past =
    ⊎_elim
    (λ over. few_left net item place (drop (place - 1) routes) (omega (arith, ap length (drop_all (place - 1) routes over))))
    (λ within.
    let back : place - 1 + 1 ≡ place = omega arith in
    let last : drop (place - 1) routes ≡ get_or routes (place - 1) no_route ∷ [] =
    drop_more routes (place - 1) no_route within ∙ ap (λ k. get_or routes (place - 1) no_route ∷ drop k routes) back ∙ ap (λ rest. get_or routes (place - 1) no_route ∷ rest) (drop_all place routes past) in
    few_left net item place (drop (place - 1) routes) (omega (arith, ap length last)))
    (le_or_lt (length routes) (place - 1))
  where
    le_or_lt : (m n : ℕ) → (m ≤ n) ⊎ (n < m)
    le_or_lt m n = ⊎_elim (λ lt. inr lt) (λ le. inl le) (cases_lt n m)

pub begins_is : (net : Net) (routes : List Route) → 1 ≤ length routes → begins_at_portal net routes ≡ is_portal net (get_or routes 0 no_route).from
begins_is net [] some = absurd (omega arith)
begins_is net (route ∷ rest) some = refl

pub ends_is : (net : Net) (routes : List Route) → 1 ≤ length routes → ends_at_portal net routes ≡ is_portal net (get_or routes (length routes - 1) no_route).to
ends_is net [] some = absurd (omega arith)
ends_is net (route ∷ []) some = refl
ends_is net (route ∷ next ∷ rest) some =
    let back : suc (length (next ∷ rest) - 1) ≡ length (route ∷ next ∷ rest) - 1 = omega arith in
    ends_is net (next ∷ rest) (omega arith) ∙ ap (λ k. is_portal net (get_or (route ∷ next ∷ rest) k no_route).to) back

-- the tests of an itinerary, with the places between its two ends
pub itinerary_is : (net : Net) (item : ℕ) (routes : List Route) →
    first_failing (route_tests net item routes) ≡ cond (not (begins_at_portal net routes)) (Some (of_train reason.NotPortal item 0)) (option_or (first_failing (place_tests net item 1 routes)) (cond (not (ends_at_portal net routes)) (Some (of_train reason.NotPortal item (length routes))) None))
itinerary_is net item routes =
    ap (cond (not (begins_at_portal net routes)) (Some (of_train reason.NotPortal item 0)))
    (first_failing-append (place_tests net item 1 routes) (train_refused reason.NotPortal item (length routes) (not (ends_at_portal net routes)) ∷ []))

pub or-some : (o other : Option Refusal) → is_some o ≡ true → option_or o other ≡ o
or-some None other some = absurd (false≢true some)
or-some (Some x) other some = refl

pub or-none : (o other : Option Refusal) → is_some o ≡ false → option_or o other ≡ other
or-none None other none = refl
or-none (Some x) other none = absurd (false≢true (sym none))

-- an itinerary that begins at a portal
module _ (net : Net) (item : ℕ) (routes : List Route) (some : 1 ≤ length routes) (at_portal : is_portal net (get_or routes 0 no_route).from ≡ true) where
  begun : first_failing (route_tests net item routes) ≡ option_or (first_failing (place_tests net item 1 routes)) (cond (not (ends_at_portal net routes)) (Some (of_train reason.NotPortal item (length routes))) None)
  begun =
      itinerary_is net item routes
      ∙ ap (λ b. cond (not b) (Some (of_train reason.NotPortal item 0)) (option_or (first_failing (place_tests net item 1 routes)) (cond (not (ends_at_portal net routes)) (Some (of_train reason.NotPortal item (length routes))) None))) (begins_is net routes some ∙ at_portal)

  pub refused_inside : (o : Option Refusal) → o ≡ first_failing (place_tests net item 1 routes) → is_some o ≡ true → o ≡ first_failing (route_tests net item routes)
  refused_inside o is found =
      is ∙ sym (begun ∙ or-some (first_failing (place_tests net item 1 routes)) (cond (not (ends_at_portal net routes)) (Some (of_train reason.NotPortal item (length routes))) None) (ap is_some (sym is) ∙ found))

  pub ending_is : (o : Option Refusal) (z : Bool) → o ≡ first_failing (place_tests net item 1 routes) → is_some o ≡ false →
      is_portal net (get_or routes (length routes - 1) no_route).to ≡ z →
      first_failing (route_tests net item routes) ≡ cond (not z) (Some (of_train reason.NotPortal item (length routes))) None
  ending_is o z is none at_end =
      begun
      ∙ or-none (first_failing (place_tests net item 1 routes)) (cond (not (ends_at_portal net routes)) (Some (of_train reason.NotPortal item (length routes))) None) (ap is_some (sym is) ∙ none)
      ∙ ap (λ b. cond (not b) (Some (of_train reason.NotPortal item (length routes))) None) (ends_is net routes some ∙ at_end)
