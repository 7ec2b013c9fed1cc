use Rattle.std.proofs.Common.{◌∙◌, ap}
use Rattle.std.specs.Result.{result_ok}
use Rattle.rail_base.proofs.Reading.{no_text, read_hours}
use Rattle.rail_base.proofs.clock.likely_hours.Goals as goal

-- the text of the hours is text
pub returns-in_err-ok : goal.returns-in_err-ok
returns-in_err-ok c = λ hours fits same. absurd (no_text _ hours fits same _ _ _ c.from_utf8.ensures.cases c.in_err-ok.ensures.variant)

pub returns : goal.returns
returns c = λ hours fits same. c.ok-2.ensures.value ∙ ap result_ok (read_hours c.args.text.now hours fits same _ _ c.from_utf8.ensures.cases _ c.in_ok-ok.ensures.value _ c.parse.ensures.value.0)
