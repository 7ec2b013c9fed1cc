-- What is counted of a run, and the line that tells of it.
use Rattle.std.proofs.Common.{◌≡◌, ℕ, suc, ◌+◌, ◌-◌, ◌*◌, ◌<◌, ◌≤◌, ◌^◌, Bool, true, false, ◌&&◌, cond, leb, List, [], ◌∷◌, length, None, ap, ◌∙◌, arith, subst}
use Rattle.std.proofs.lemmas.Bool.{and_parts, leb-true}
use Rattle.std.proofs.lemmas.Nat.{mul-le}
use Rattle.rail_base.specs.declared.history.What.{What}
use Rattle.rail_base.specs.declared.history.Entry.{Entry}
use Rattle.rail_base.specs.declared.limits.TheConstants.{COMMANDS}
use Rattle.rail_laws_front.proofs.CallerLemmas.{lawful_before, well_formed_from_accepted}
use Rattle.rail_rules.proofs.CallerLemmas.{accepted_parts}
use Rattle.rail_rules.specs.Accepted.{are_commands_in_range, is_accepted, is_accepted_input}
use Rattle.rail_rules.specs.Fronts.{Front, is_admission, is_hold, lines_beside_holds}
use Rattle.rail_rules.specs.Lawful.{is_lawful}
use Rattle.rail_rules.specs.LineCounts.{lines_that}
use Rattle.rail_rules.specs.Orders.{Input}
use Rattle.rail_rules.specs.Plant.{Plant, bound, trains}
use Rattle.rail_rules.specs.RunHistories.{Seat}
use Rattle.rail_state.proofs.CallerLemmas.{bound_small}
use Rattle.rail_forms.specs.declared.summary.Summary.{Summary}
use Rattle.rail_forms.specs.declared.status.Status.{Status}
use Rattle.rail_forms.specs.Answers.{IsAnswer}
use Rattle.rail_forms.specs.NotedRuns.{FollowsNoted, IsNotedRun, ReportsRun}
use Rattle.rail_forms.specs.Summaries.{IsSummaryText, is_leaving, summary_line, summary_of}
use Rattle.rail_forms.proofs.LineBounds.{lines_at_most}

-- no more lines pass a test than there are
few_that : (test : What → Bool) (front : Front) → lines_that test front ≤ length front
few_that test [] = omega arith
few_that test (line ∷ front) = by (test line.entry.what) (few_that test front)
  where
    by : (passes : Bool) → lines_that test front ≤ length front → cond passes 1 0 + lines_that test front ≤ suc (length front)
    by true few = omega (arith, few)
    by false few = omega (arith, few)

few_beside : (front : Front) → lines_beside_holds front ≤ length front
few_beside [] = omega arith
few_beside (line ∷ front) = by (is_hold line.entry.what) (few_beside front)
  where
    by : (holds : Bool) → lines_beside_holds front ≤ length front → cond holds 0 1 + lines_beside_holds front ≤ suc (length front)
    by true few = omega (arith, few)
    by false few = omega (arith, few)

-- an accepted input has a plant that is accepted, and few commands
plant_and_commands : (input : Input) → is_accepted_input input ≡ true → (is_accepted input.plant ≡ true) × (length input.commands ≤ COMMANDS)
plant_and_commands input accepted =
    let of_deck = and_parts _ _ accepted in
    let of_names = and_parts _ _ of_deck.0 in
    let of_policies = and_parts _ _ of_names.0 in
    let of_commands = and_parts (is_accepted input.plant && leb (length input.commands) COMMANDS) (are_commands_in_range input.plant 0 input.commands) of_policies.0 in
    let of_plant = and_parts (is_accepted input.plant) (leb (length input.commands) COMMANDS) of_commands.0 in
    (of_plant.0, leb-true (length input.commands) COMMANDS of_plant.1)

-- a history has few lines
few_lines : (input : Input) → is_accepted_input input ≡ true → (front : Front) → is_lawful input front ≡ true → length front ≤ 3100000 * 300
few_lines input accepted front lawful =
    let parts = plant_and_commands input accepted in
    let few = lines_at_most input (well_formed_from_accepted input.plant parts.0) front lawful in
    let product = mul-le (bound input.plant (length input.commands)) (trains input.plant + 1) 3100000 300
    (omega (arith, bound_small input.plant parts.0, parts.1)) (omega (arith, (accepted_parts input.plant parts.0).few_trains)) in
    omega (arith, few, product)

-- one more can be counted
pub counts_fit : (summary : Summary) (plant : Plant) (entry : Entry) (list : List ℕ) → FollowsNoted (λ input front. summary ≡ summary_of front) plant entry list
    → (summary.moves < 2 ^ 64 - 1) × (summary.lines < 2 ^ 64 - 1) × (summary.holds < 2 ^ 64 - 1) × (summary.outs < 2 ^ 64 - 1)
counts_fit summary plant entry list follows =
    let front = follows.front in
    let few = few_lines follows.input follows.next.accepted front (lawful_before follows.input follows.line front follows.next.lawful) in (
      omega (arith, ap (λ (s : Summary). s.moves) follows.noted, few_that is_admission front, few),
      omega (arith, ap (λ (s : Summary). s.lines) follows.noted, few_beside front, few),
      omega (arith, ap (λ (s : Summary). s.holds) follows.noted, few_that is_hold front, few),
      omega (arith, ap (λ (s : Summary). s.outs) follows.noted, few_that is_leaving front, few),
    )

-- the line of a run history whose lines were counted
pub summary_told : (number : ℕ) (input : Input) (seats : List Seat) (summary : Summary) (plant : Plant) → plant ≡ input.plant
    → IsNotedRun (λ i f. summary ≡ summary_of f) input seats
    → (X : List ℕ → Type 0) → X (summary_line number (trains plant) summary) → ReportsRun (IsSummaryText number) input seats X
summary_told number input seats summary plant is noted X added = record {
  front = noted.front;
  run = noted.run;
  text = summary_line number (trains plant) summary;
  told = ap (λ (p : Plant). summary_line number (trains p) summary) is ∙ ap (summary_line number (trains input.plant)) noted.noted;
  added = added;
}

-- what is answered of the run of the same input
pub summary_answered : (number : ℕ) (input made : Input) → input ≡ made → (seats handed : List Seat) → seats ≡ handed
    → (whole part : List ℕ → Type 0) (status : Status)
    → IsAnswer None (ReportsRun (IsSummaryText number) input seats whole) (ReportsRun (IsSummaryText number) input seats part) status
    → IsAnswer None (ReportsRun (IsSummaryText number) made handed whole) (ReportsRun (IsSummaryText number) made handed part) status
summary_answered number input made is_made seats handed is_handed whole part status answer =
    let Answers : Input → List Seat → Type 0 = λ i s. IsAnswer None (ReportsRun (IsSummaryText number) i s whole) (ReportsRun (IsSummaryText number) i s part) status in
    subst (λ i. Answers i handed) is_made (subst (λ s. Answers input s) is_handed answer)
