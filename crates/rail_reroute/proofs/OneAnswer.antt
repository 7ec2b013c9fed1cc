-- That a proposal has one answer.
use Rattle.std.proofs.Common.{◌≡◌, ℕ, suc, ◌<◌, ◌⊎◌, Bool, true, false, List, Option, Some, None, refl, sym, ◌∙◌, subst, ⊎_elim, inl, inr, arith}
use Rattle.std.proofs.lemmas.Bool.{cases_lt, true≢false}
use Rattle.rail_base.specs.declared.refusals.Reason.{Reason}
use Rattle.rail_base.specs.declared.refusals.Refusal.{Refusal}
use Rattle.rail_rules.specs.Analysis.{finds}
use Rattle.rail_rules.specs.Moves.{Moves}
use Rattle.rail_rules.specs.Places.{is_valid_state}
use Rattle.rail_rules.specs.Plant.{moves_of}
use Rattle.rail_place.specs.Overlaps.{IsOverlap}
use Rattle.rail_scene.specs.declared.scene.Scene.{Scene}
use Rattle.rail_compile.specs.Itineraries.{plant_of_scene}
use Rattle.rail_compile.specs.Refusals.{compile_refusal, of_train}
use Rattle.rail_reroute.specs.Judgements.{IsJudged, IsRefusedItinerary, IsRerouted, IsTooMany, is_out_at, is_too_many, rerouted, without_list}
use Rattle.rail_reroute.specs.declared.judgements.Judged.{Judged}
use Rattle.rail_reroute.specs.declared.judgements.Judged.TheVariants.{Out, Refused, Overlap, NoList, List as Listed}
use Rattle.rail_reroute.proofs.States.{overlapped}

-- two descriptions of the overlap in a state are one
same_overlap : (plan : Moves) (s : List ℕ) (x first second y third fourth : ℕ) → IsOverlap plan s x first second → IsOverlap plan s y third fourth
    → (x ≡ y) × (first ≡ third) × (second ≡ fourth)
same_overlap plan s x first second y third fourth one other =
    let section : x ≡ y = one_number x y
    (λ less. omega (arith, one.ordered, other.least_section x first second less one.first_holds one.second_holds))
    (λ more. omega (arith, other.ordered, one.least_section y third fourth more other.first_holds other.second_holds)) in
    let here : IsOverlap plan s x third fourth = subst (λ z. IsOverlap plan s z third fourth) (sym section) other in
    let later : second ≡ fourth = one_number second fourth
    (λ less. omega (arith, one.ordered, here.least_trains second less one.second_holds, here.least_trains first (omega (arith, one.ordered, less)) one.first_holds))
    (λ more. omega (arith, other.ordered, one.least_trains fourth more here.second_holds, one.least_trains third (omega (arith, other.ordered, more)) here.first_holds)) in
    (section, sym (one.least_trains third (omega (arith, other.ordered, later)) here.first_holds), later)
  where
    one_number : (a b : ℕ) → (a < b → ⊥) → (b < a → ⊥) → a ≡ b
    one_number a b below above = ⊎_elim (λ less. absurd (below less)) (λ past. ⊎_elim (λ more. absurd (above more)) (λ equal. omega (arith, past, equal)) (cases_lt b a)) (cases_lt a b)

module _ (scene : Scene) (s : List ℕ) (t : ℕ) (routes : List (List ℕ)) where
  abbrev plan : Moves
  plan = moves_of (plant_of_scene (rerouted scene s t routes))

  both_ways : {X : Type 0} (b : Bool) → b ≡ true → b ≡ false → X
  both_ways b one other = absurd (true≢false (sym one ∙ other))

  -- the two refusals of an itinerary are one
  same_told : (o : Option Refusal) (why other : Reason) (place step : ℕ) → o ≡ Some (of_train why (suc t) place) → o ≡ Some (of_train other (suc t) step) → Refused why place ≡ Refused other step
  same_told o why other place step one more =
      let same : Some (of_train why (suc t) place) ≡ Some (of_train other (suc t) step) = sym one ∙ more in
      let refusals : of_train why (suc t) place ≡ of_train other (suc t) step = cc in
      λ i. Refused (refusals i).reason (refusals i).step

  same_refusal : (why other : Reason) (place step : ℕ) → IsTooMany s t routes why place ⊎ IsRefusedItinerary scene s t routes why place
      → IsTooMany s t routes other step ⊎ IsRefusedItinerary scene s t routes other step → Refused why place ≡ Refused other step
  same_refusal why other place step (inl many) (inl more) = λ i. Refused ((many.told ∙ sym more.told) i) ((many.nowhere ∙ sym more.nowhere) i)
  same_refusal why other place step (inl many) (inr refused) = both_ways (is_too_many s t routes) many.many refused.few
  same_refusal why other place step (inr refused) (inl many) = both_ways (is_too_many s t routes) many.many refused.few
  same_refusal why other place step (inr refused) (inr again) = same_told (compile_refusal (rerouted scene s t routes)) why other place step refused.refused.told again.refused.told

  -- where the rerouted scene has a plant, the itinerary is not refused
  not_refused : {X : Type 0} (why : Reason) (place : ℕ) → IsTooMany s t routes why place ⊎ IsRefusedItinerary scene s t routes why place → IsRerouted scene s t routes → X
  not_refused why place (inl many) plant = both_ways (is_too_many s t routes) many.many plant.few
  not_refused why place (inr refused) plant = let bad : None ≡ Some (of_train why (suc t) place) = sym plant.compiles ∙ refused.refused.told in cc

  pub one_answer : (one other : Judged) → IsJudged scene s t routes one → IsJudged scene s t routes other → without_list one ≡ without_list other
  one_answer Out Out a b = refl
  one_answer Out (Refused reason step) a b = both_ways (is_out_at scene s t) a b.0
  one_answer Out (Overlap y third fourth) a b = both_ways (is_out_at scene s t) a b.0.inside
  one_answer Out NoList a b = both_ways (is_out_at scene s t) a b.0.inside
  one_answer Out (Listed others) a b = both_ways (is_out_at scene s t) a b.0.inside
  one_answer (Refused why place) Out a b = both_ways (is_out_at scene s t) b a.0
  one_answer (Refused why place) (Refused reason step) a b = same_refusal why reason place step a.1 b.1
  one_answer (Refused why place) (Overlap y third fourth) a b = not_refused why place a.1 b.0
  one_answer (Refused why place) NoList a b = not_refused why place a.1 b.0
  one_answer (Refused why place) (Listed others) a b = not_refused why place a.1 b.0
  one_answer (Overlap x first second) Out a b = both_ways (is_out_at scene s t) b a.0.inside
  one_answer (Overlap x first second) (Refused reason step) a b = not_refused reason step b.1 a.0
  one_answer (Overlap x first second) (Overlap y third fourth) a b = let same = same_overlap plan s x first second y third fourth a.1 b.1 in λ i. Overlap (same.0 i) (same.1 i) (same.2 i)
  one_answer (Overlap x first second) NoList a b = both_ways (is_valid_state plan s) b.1.0 (overlapped plan s x first second a.1)
  one_answer (Overlap x first second) (Listed others) a b = both_ways (is_valid_state plan s) b.1.0 (overlapped plan s x first second a.1)
  one_answer NoList Out a b = both_ways (is_out_at scene s t) b a.0.inside
  one_answer NoList (Refused reason step) a b = not_refused reason step b.1 a.0
  one_answer NoList (Overlap y third fourth) a b = both_ways (is_valid_state plan s) a.1.0 (overlapped plan s y third fourth b.1)
  one_answer NoList NoList a b = refl
  one_answer NoList (Listed others) a b = both_ways (finds plan scene.depth s) b.1.1 a.1.1
  one_answer (Listed list) Out a b = both_ways (is_out_at scene s t) b a.0.inside
  one_answer (Listed list) (Refused reason step) a b = not_refused reason step b.1 a.0
  one_answer (Listed list) (Overlap y third fourth) a b = both_ways (is_valid_state plan s) a.1.0 (overlapped plan s y third fourth b.1)
  one_answer (Listed list) NoList a b = both_ways (finds plan scene.depth s) a.1.1 b.1.1
  one_answer (Listed list) (Listed others) a b = refl
