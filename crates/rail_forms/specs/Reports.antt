-- The form `report`: how late the trains of a run are, and for which causes they are held.
use Rattle.std.specs.Prelude.{◌≡◌, ℕ, List, Option}
use Rattle.rail_delay.specs.Reports.{report_text}
use Rattle.rail_io.specs.Writes.{Adds, AddsPrefix}
use Rattle.rail_policy.specs.Seats.{DeskSeat}
use Rattle.rail_rules.specs.Fronts.{Front}
use Rattle.rail_rules.specs.Orders.{Input}
use Rattle.rail_forms.specs.declared.status.Status.{Status}
use Rattle.rail_forms.specs.Answers.{Told}
use Rattle.rail_forms.specs.NotedRuns.{ReportsRun}
use Rattle.rail_command_line.specs.Forms.{Scenario}
use Rattle.rail_forms.specs.Scenarios.{AnswersScenario, IsAcceptedScenario, nothing_else}
use Rattle.rail_forms.specs.Terms.{Terms, is_done, never}

-- the text is the report of the history
abbrev pub IsReportText : Input → Front → List ℕ → Type 0
IsReportText input front text = text ≡ report_text input.plant input.commands front

-- the report of the scenario, with this deck
abbrev pub AnswersReport : Scenario → List DeskSeat → Told → Option (List ℕ) → Option (List ℕ) → Status → Type 0
AnswersReport scenario deck told before now status = AnswersScenario nothing_else
    (λ input seats. ReportsRun IsReportText input seats (Adds before now))
    (λ input seats. ReportsRun IsReportText input seats (AddsPrefix before now)) scenario deck told status

-- the terms of `report`
abbrev pub report_terms : Terms Scenario
report_terms = record {
  answers = λ scenario deck told before now status. AnswersReport scenario deck told before now status;
  accepted = λ scenario deck told. IsAcceptedScenario nothing_else deck told scenario;
  done = is_done;
  alone = never;
}
