-- The steps of a route, one by one.
use Rattle.std.proofs.Common.{◌≡◌, ℕ, ◌+◌, ◌-◌, ◌<◌, Bool, true, false, cond, not, ◌&&◌, ◌||◌, ◌==◌, List, [], ◌∷◌, ◌++◌, length, drop, take, get_or, nat_lt, Option, Some, None, is_some, refl, sym, ap, ◌∙◌, arith}
use Rattle.std.specs.List.{list_any}
use Rattle.std.specs.Option.{option_or}
use Rattle.std.proofs.lemmas.List.{at_drop_more, length-drop}
use Rattle.std.proofs.lemmas.List.Folds.{list_any-append}
use Rattle.std.proofs.Math.Seq.{take-append-add}
use Rattle.std.proofs.lemmas.Bool.Decides.{nat_tests}
use Rattle.rail_base.specs.NameForms.{same_name}
use Rattle.rail_base.specs.declared.refusals.Reason.TheVariants.{RouteBroken, Unknown}
use Rattle.rail_track.specs.declared.section.NetFault.{NetFault}
use Rattle.rail_track.specs.declared.section.NetFault.TheVariants.{Refused}
use Rattle.rail_track.specs.declared.section.Section.{Section}
use Rattle.rail_track.specs.Passages.{has_passage}
use Rattle.rail_base.specs.FirstRefusals.{first_failing}
use Rattle.rail_base.proofs.CallerLemmas.{first_failing-append}
use Rattle.rail_routes.specs.declared.items.Post.{Post}
use Rattle.rail_routes.specs.declared.items.Step.{Step}
use Rattle.rail_routes.specs.declared.items.Route.{Route}
use Rattle.rail_routes.specs.Net.{Net, posts, is_post, post_named}
use Rattle.rail_routes.specs.RouteRules.{step_tests, lead_tests, leads_from, goes_on, ends, rule_tests, occurred, repeat_tests, way_tests, way_from, misses_section}
use Rattle.rail_routes.proofs.Uses.{list_any-find}

goes_on_test : (steps : List Step) → goes_on steps ≡ nat_lt 0 (length steps)
goes_on_test [] = refl
goes_on_test (step ∷ steps) = grind (arith, nat_tests)

-- a step is the last where none is left behind it
last_step : (steps : List Step) (i : ℕ) → i < length steps → goes_on (drop (i + 1) steps) ≡ not (i + 1 == length steps)
last_step steps i within =
    let left = length-drop (i + 1) steps in
    goes_on_test (drop (i + 1) steps) ∙ grind (arith, nat_tests)

module _ (sections : List Section) (end : Post) (steps : List Step) (n i : ℕ) (joint : List ℕ) (step : Step) (within : i < length steps) (is : step ≡ get_or steps i step) where
  abbrev wrong : Bool
  wrong = not (same_name joint step.from && has_passage sections step.section step.from step.to && (not (i + 1 == length steps) || ends end step))

  step_at : first_failing (step_tests sections end n joint (drop i steps)) ≡ cond wrong (Some (Refused RouteBroken n)) (first_failing (step_tests sections end (n + 1) step.to (drop (i + 1) steps)))
  step_at =
      at_drop_more (λ ys. first_failing (step_tests sections end n joint ys)) steps i step within
      ∙ ap (λ y. first_failing (step_tests sections end n joint (y ∷ drop (i + 1) steps))) (sym is)
      ∙ ap (λ b. cond (not (same_name joint step.from && has_passage sections step.section step.from step.to && (b || ends end step))) (Some (Refused RouteBroken n)) (first_failing (step_tests sections end (n + 1) step.to (drop (i + 1) steps)))) (last_step steps i within)

  pub step_refused : wrong ≡ true → first_failing (step_tests sections end n joint (drop i steps)) ≡ Some (Refused RouteBroken n)
  step_refused failed = step_at ∙ ap (λ b. cond b (Some (Refused RouteBroken n)) (first_failing (step_tests sections end (n + 1) step.to (drop (i + 1) steps)))) failed

-- the steps of an overlap: n is the number of the step at i
module _ (sections : List Section) (steps : List Step) (n i : ℕ) (joint : List ℕ) (step : Step) (within : i < length steps) (is : step ≡ get_or steps i step) where
  lead_at : first_failing (lead_tests sections n joint (drop i steps)) ≡ cond (not (leads_from sections joint step)) (Some (Refused RouteBroken n)) (first_failing (lead_tests sections (n + 1) step.to (drop (i + 1) steps)))
  lead_at =
      at_drop_more (λ ys. first_failing (lead_tests sections n joint ys)) steps i step within
      ∙ ap (λ y. first_failing (lead_tests sections n joint (y ∷ drop (i + 1) steps))) (sym is)

  pub lead_passed : leads_from sections joint step ≡ true → first_failing (lead_tests sections n joint (drop i steps)) ≡ first_failing (lead_tests sections (n + 1) step.to (drop (i + 1) steps))
  lead_passed leads = lead_at ∙ ap (λ b. cond (not b) (Some (Refused RouteBroken n)) (first_failing (lead_tests sections (n + 1) step.to (drop (i + 1) steps)))) leads

-- whether the section of the step at i behind these first steps is that of an earlier one
pub occurred_behind : (first steps : List Step) (i : ℕ) (step : Step) → occurred (first ++ steps) (length first + i + 1) step
    ≡ (list_any (λ (other : Step). same_name step.section other.section) first || list_any (λ (other : Step). same_name step.section other.section) (take i steps))
occurred_behind first steps i step =
    let test = λ (other : Step). same_name step.section other.section in
    let before : length first + i + 1 - 1 ≡ length first + i = omega arith in
    ap (list_any test) (ap (λ n. take n (first ++ steps)) before ∙ take-append-add first steps i) ∙ list_any-append test first (take i steps)

abbrev rules : Bool → Bool → Bool → Bool → Option NetFault → Option NetFault
rules from to astray beyond rest = cond (not from) (Some (Refused Unknown 2)) (cond (not to) (Some (Refused Unknown 3)) (cond astray (Some (Refused Unknown 4)) (cond beyond (Some (Refused Unknown 5)) rest)))

module _ (net : Net) (route : Route) where
  abbrev is_astray : Bool
  is_astray = misses_section net.sections route.steps

  abbrev is_over_astray : Bool
  is_over_astray = misses_section net.sections route.overlap

  abbrev rest : Option Post → Option Post → Option NetFault
  rest begin end = first_failing (repeat_tests route.steps route.overlap ++ way_tests begin end net.sections route.steps route.overlap)

  known : (name : List ℕ) (post : Option Post) → post_named name net ≡ post → list_any (is_post name) (posts net) ≡ is_some post
  known name post is = list_any-find (is_post name) (posts net) ∙ ap is_some is

  pub rules_from : post_named route.from net ≡ None → first_failing (rule_tests net route) ≡ Some (Refused Unknown 2)
  rules_from none = ap (λ b. rules b (list_any (is_post route.to) (posts net)) is_astray is_over_astray (rest (post_named route.from net) (post_named route.to net))) (known route.from None none)

  module _ (begin : Post) (begins : post_named route.from net ≡ Some begin) where
    pub rules_to : post_named route.to net ≡ None → first_failing (rule_tests net route) ≡ Some (Refused Unknown 3)
    rules_to none = λ i. rules (known route.from (Some begin) begins i) (known route.to None none i) is_astray is_over_astray (rest (post_named route.from net) (post_named route.to net))

    module _ (end : Post) (finishes : post_named route.to net ≡ Some end) where
      pub rules_astray : is_astray ≡ true → first_failing (rule_tests net route) ≡ Some (Refused Unknown 4)
      rules_astray astray = λ i. rules (known route.from (Some begin) begins i) (known route.to (Some end) finishes i) (astray i) is_over_astray (rest (begins i) (finishes i))

      module _ (fine : is_astray ≡ false) where
        pub rules_over_astray : is_over_astray ≡ true → first_failing (rule_tests net route) ≡ Some (Refused Unknown 5)
        rules_over_astray astray = λ i. rules (known route.from (Some begin) begins i) (known route.to (Some end) finishes i) (fine i) (astray i) (rest (begins i) (finishes i))

        pub rules_way : is_over_astray ≡ false → first_failing (rule_tests net route) ≡ option_or (first_failing (repeat_tests route.steps route.overlap)) (first_failing (way_from begin end net.sections route.steps route.overlap))
        rules_way over_fine =
            (λ i. rules (known route.from (Some begin) begins i) (known route.to (Some end) finishes i) (fine i) (over_fine i) (rest (begins i) (finishes i)))
            ∙ first_failing-append (repeat_tests route.steps route.overlap) (way_from begin end net.sections route.steps route.overlap)
