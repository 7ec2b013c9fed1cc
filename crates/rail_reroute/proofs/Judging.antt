-- The answer to a proposal, from what was found.
use Rattle.std.proofs.Common.{◌≡◌, ℕ, ◌<◌, ◌^◌, List, Some, None, Result, Ok, IsErr, IfOk, IfSome, MatchOption, sym, ap, ◌∙◌, subst, inr, arith}
use Rattle.std.proofs.lemmas.Result.{IfOk-from_err}
use Rattle.rail_base.specs.Refusals.{AnswersFirst, refusal_in}
use Rattle.rail_base.specs.declared.refusals.Fault.{Fault}
use Rattle.rail_base.specs.declared.refusals.Fault.TheVariants as fault
use Rattle.rail_base.specs.declared.refusals.OutOfMemory.{OutOfMemory}
use Rattle.rail_base.specs.declared.refusals.Refusal.{Refusal}
use Rattle.rail_rules.specs.Plant.{moves_of}
use Rattle.rail_scene.specs.declared.scene.Scene.{Scene}
use Rattle.rail_compile.specs.Itineraries.{plant_of_scene}
use Rattle.rail_compile.specs.Refusals.{compile_refusal}
use Rattle.rail_reroute.specs.Judgements.{IsJudged, IsProposed, LeadsTo, rerouted}
use Rattle.rail_reroute.specs.declared.judgements.Judged.{Judged}
use Rattle.rail_reroute.specs.declared.judgements.Judged.TheVariants.{Out, Refused, Overlap, NoList, List as Listed}
use Rattle.rail_reroute.proofs.Refused.{refused}

module _ (scene : Scene) (s : List ℕ) (t : ℕ) (routes : List (List ℕ)) (h : IsProposed scene s t routes) where
  -- a fault of compiling the rerouted scene is at a place that fits its type
  pub small_place : (why : Fault) → AnswersFirst (compile_refusal (rerouted scene s t routes)) why → IfSome (refusal_in why) (λ (refusal : Refusal). refusal.step < 2 ^ 16)
  small_place (fault.Refused refusal) answers = omega (arith, (refused scene s t routes h refusal answers).place)
  small_place fault.OutOfMemory answers = tt

  -- what is told of it is the answer
  pub judged_refused : (why : Fault) (result : Result Judged OutOfMemory) → AnswersFirst (compile_refusal (rerouted scene s t routes)) why
      → MatchOption (refusal_in why) (IsErr result) (λ (refusal : Refusal). result ≡ Ok (Refused refusal.reason refusal.step)) → IfOk result (IsJudged scene s t routes)
  judged_refused (fault.Refused refusal) result answers is =
      let own = refused scene s t routes h refusal answers in
      let P : Result Judged OutOfMemory → Type 0 = λ r. IfOk r (IsJudged scene s t routes) in
      subst P (sym is) (h.inside, inr (record { few = h.few; refused = record { told = answers ∙ ap Some own.told; itinerary = own.itinerary } }))
  judged_refused fault.OutOfMemory result answers is = IfOk-from_err result (IsJudged scene s t routes) is

  -- what the state leads to in the rerouted plant is the answer
  pub judged_found : compile_refusal (rerouted scene s t routes) ≡ None → (answer : Judged) → LeadsTo (moves_of (plant_of_scene (rerouted scene s t routes))) scene.depth s answer → IsJudged scene s t routes answer
  judged_found compiles Out found = absurd found
  judged_found compiles (Refused why place) found = absurd found
  judged_found compiles (Overlap x first second) found = (record { inside = h.inside; few = h.few; compiles = compiles }, found)
  judged_found compiles NoList found = (record { inside = h.inside; few = h.few; compiles = compiles }, found)
  judged_found compiles (Listed list) found = (record { inside = h.inside; few = h.few; compiles = compiles }, found)
