use Rattle.std.proofs.Common.{◌∙◌, ap}
use Rattle.std.specs.Result.{result_ok}
use Rattle.rail_command_line.proofs.Reading.{no_text, read_digits}
use Rattle.rail_command_line.proofs.numbers.likely_number.Goals as goal

-- the digits of a number are text
pub returns-in_err-ok : goal.returns-in_err-ok
returns-in_err-ok c = λ n is. absurd (no_text _ n is.fits is.spelled _ _ _ c.from_utf8.ensures.cases c.in_err-ok.ensures.variant)

pub returns : goal.returns
returns c = λ n is. c.ok-2.ensures.value ∙ ap result_ok (read_digits c.args.word.now n is.fits is.spelled _ _ c.from_utf8.ensures.cases _ c.in_ok-ok.ensures.value _ c.parse.ensures.value.0)
