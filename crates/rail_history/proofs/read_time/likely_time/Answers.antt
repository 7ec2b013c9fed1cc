use Rattle.std.proofs.Common.{◌≡◌, ◌+◌, ◌*◌, ◌/◌, ◌%◌, Some, ap, ◌∙◌, arith}
use Rattle.rail_text.specs.Decimals.{value_of}
use Rattle.rail_text.proofs.CallerLemmas.{hours_value}
use Rattle.rail_history.proofs.Times.{parts_of}
use Rattle.rail_history.proofs.read_time.likely_time.Goals as goal

-- the parts of the text are the parts of the time
pub returns : goal.returns
returns c = λ time fits spelled.
    let parts = parts_of c.args.text.now time spelled in
    let digits : c.value_of-digits.result ≡ 1000 * (time / 600 % 60) + 10 * (time / 10 % 60) + time % 10 = omega (arith, c.value_of-digits.ensures, parts.m1, parts.m0, parts.s1, parts.s0, parts.tenth) in
    let spelled_hours = ap value_of parts.hours ∙ hours_value (time / 36000) (omega arith) in
    let hours : c.value_of-hours.result ≡ time / 36000 = omega (arith, c.value_of-hours.ensures, spelled_hours) in
    ap Some (omega (arith, c.saturating_mul.ensures, c.saturating_add.ensures))
