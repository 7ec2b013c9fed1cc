use Rattle.std.proofs.Common.{◌≡◌, sym, ◌∙◌, arith}
use Rattle.std.proofs.lemmas.Fmt.{decimal_injective}
use Rattle.rail_command_line.proofs.forms.path_count.Goals as goal

pub returns-then-count-lt1 : goal.returns-then-count-lt1
returns-then-count-lt1 c = λ count is.
    let same : c.in_ok-count.count ≡ count = decimal_injective c.in_ok-count.count count c.in_ok-count.ensures.fits is.number.fits (sym c.in_ok-count.ensures.spelled ∙ is.number.spelled) in
    let some = is.some in let few = is.few in
    omega (arith, same, some, few)
