use Rattle.std.proofs.Common.{List, ℕ, sym, ◌∙◌, subst}
use Rattle.rail_base.specs.Clock.{IsLenientTime}
use Rattle.rail_command_line.proofs.forms.study_with.Goals as goal

pub returns-in_err-to : goal.returns-in_err-to
returns-in_err-to c = rw c.from_residual-in_err-to.ensures
    (λ study spelled. c.in_err-to.ensures study.to (subst (λ (text : List ℕ). IsLenientTime text study.to) (sym (c.as_bytes-2.ensures.value ∙ c.as_str-2.ensures)) spelled.2))
