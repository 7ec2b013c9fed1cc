-- The verdict that is answered, as the definitions have it.
use Rattle.std.specs.Prelude.{◌≡◌, ℕ, List}
use Rattle.rail_check.specs.declared.verdict.Verdict.{Verdict}
use Rattle.rail_check.specs.declared.verdict.Verdict.TheVariants.{Yes, No}
use Rattle.rail_history.specs.HistoryLines.{IsHistory}
use Rattle.rail_laws_verdict.specs.Verdicts.{Verdict as Judged, verdict}
use Rattle.rail_laws_verdict.specs.Verdicts.Verdict.{yes, no}
use Rattle.rail_rules.specs.Fronts.{Line}
use Rattle.rail_rules.specs.Orders.{Input}

-- the verdict that an answer is
abbrev pub judged_in : Verdict → Judged
judged_in Yes = yes
judged_in (No line law) = no line law

-- the bytes are the text of a history, and the answer is the verdict on its lines
pub record IsVerdictOn (input : Input) (bytes : List ℕ) (answer : Verdict) : Type 0 where
  pub lines : List Line
  pub is_history : IsHistory input.plant bytes lines
  pub judged : judged_in answer ≡ verdict input lines
