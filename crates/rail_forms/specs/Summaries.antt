-- The form `gen`: a run of the made-up scene of a number, told in one line.
use Rattle.std.specs.Prelude.{◌≡◌, ℕ, Bool, true, false, List, [], ◌∷◌, codes, decimal, Option, None}
use Rattle.rail_base.specs.Clock.{time_text}
use Rattle.rail_base.specs.declared.history.What.{What}
use Rattle.rail_base.specs.declared.history.What.TheVariants.{Out}
use Rattle.rail_gen.specs.MadeScenes.{made_scene}
use Rattle.rail_input.specs.Inputs.{scene_input}
use Rattle.rail_io.specs.Writes.{Adds, AddsPrefix}
use Rattle.rail_policy.specs.Seats.{DeskSeat, handed_in, names_of}
use Rattle.rail_rules.specs.Fronts.{Front, instant, is_admission, is_hold, lines_beside_holds}
use Rattle.rail_rules.specs.LineCounts.{lines_that}
use Rattle.rail_rules.specs.Orders.{Input}
use Rattle.rail_rules.specs.Plant.{trains}
use Rattle.rail_rules.specs.Texts.{spaced}
use Rattle.rail_forms.specs.declared.summary.Summary.{Summary}
use Rattle.rail_forms.specs.declared.status.Status.{Status}
use Rattle.rail_forms.specs.Answers.{IsAnswer}
use Rattle.rail_forms.specs.NotedRuns.{ReportsRun}
use Rattle.rail_forms.specs.Terms.{Terms, is_done, never}

-- the line is an out line
abbrev pub is_leaving : What → Bool
is_leaving (Out t) = true
is_leaving _ = false

-- what is counted of a history: its admissions, its lines beside hold lines, its hold lines and its out lines, and the
-- time of its last line
abbrev pub summary_of : Front → Summary
summary_of front = record {
  moves = lines_that is_admission front;
  lines = lines_beside_holds front;
  holds = lines_that is_hold front;
  outs = lines_that is_leaving front;
  last = instant front;
}

-- the line of a run with so many trains
abbrev pub summary_line : ℕ → ℕ → Summary → List ℕ
summary_line number trains summary = spaced (codes "gen" ∷ decimal number
    ∷ codes "trains" ∷ decimal trains ∷ codes "moves" ∷ decimal summary.moves ∷ codes "lines" ∷ decimal summary.lines
    ∷ codes "holds" ∷ decimal summary.holds ∷ codes "last" ∷ time_text summary.last ∷ codes "out" ∷ decimal summary.outs ∷ [])

-- the text is the line of the history
abbrev pub IsSummaryText : ℕ → Input → Front → List ℕ → Type 0
IsSummaryText number input front text = text ≡ summary_line number (trains input.plant) (summary_of front)

-- the run of the made-up scene of a number, with this deck
abbrev pub made_input : ℕ → List DeskSeat → Input
made_input number deck = scene_input (made_scene number) (names_of deck)

-- the line of the run of the made-up scene of the number, with this deck
abbrev pub AnswersGen : ℕ → List DeskSeat → Option (List ℕ) → Option (List ℕ) → Status → Type 0
AnswersGen number deck before now status = IsAnswer None
    (ReportsRun (IsSummaryText number) (made_input number deck) (handed_in deck) (Adds before now))
    (ReportsRun (IsSummaryText number) (made_input number deck) (handed_in deck) (AddsPrefix before now)) status

-- the terms of `gen`
abbrev pub gen_terms : Terms ℕ
gen_terms = record {
  answers = λ number deck told before now status. AnswersGen number deck before now status;
  accepted = λ number deck told. Unit {0};
  done = is_done;
  alone = never;
}
