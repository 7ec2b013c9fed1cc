-- The form `stairs`: the blocking intervals of a run, and the occupation of its sections.
use Rattle.std.specs.Prelude.{◌≡◌, ℕ, List, Option}
use Rattle.rail_io.specs.Writes.{Adds, AddsPrefix}
use Rattle.rail_policy.specs.Seats.{DeskSeat}
use Rattle.rail_rules.specs.Fronts.{Front}
use Rattle.rail_rules.specs.Orders.{Input}
use Rattle.rail_stairs.specs.StairsTexts.{stairs_text}
use Rattle.rail_forms.specs.declared.status.Status.{Status}
use Rattle.rail_forms.specs.Answers.{Told}
use Rattle.rail_forms.specs.NotedRuns.{ReportsRun}
use Rattle.rail_command_line.specs.Forms.{Scenario}
use Rattle.rail_forms.specs.Scenarios.{AnswersScenario, IsAcceptedScenario, nothing_else}
use Rattle.rail_forms.specs.Terms.{Terms, is_done, never}

-- the text is that of the stairway of the history
abbrev pub IsStairsText : Input → Front → List ℕ → Type 0
IsStairsText input front text = text ≡ stairs_text input.plant front

-- the stairway of the scenario, with this deck
abbrev pub AnswersStairs : Scenario → List DeskSeat → Told → Option (List ℕ) → Option (List ℕ) → Status → Type 0
AnswersStairs scenario deck told before now status = AnswersScenario nothing_else
    (λ input seats. ReportsRun IsStairsText input seats (Adds before now))
    (λ input seats. ReportsRun IsStairsText input seats (AddsPrefix before now)) scenario deck told status

-- the terms of `stairs`
abbrev pub stairs_terms : Terms Scenario
stairs_terms = record {
  answers = λ scenario deck told before now status. AnswersStairs scenario deck told before now status;
  accepted = λ scenario deck told. IsAcceptedScenario nothing_else deck told scenario;
  done = is_done;
  alone = never;
}
