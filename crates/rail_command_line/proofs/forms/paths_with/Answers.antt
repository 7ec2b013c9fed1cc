use Rattle.std.proofs.Common.{List, ℕ, sym, ◌∙◌, subst}
use Rattle.rail_base.specs.Clock.{IsLenientTime}
use Rattle.rail_command_line.specs.Forms.{IsPathCount}
use Rattle.rail_command_line.proofs.forms.paths_with.Goals as goal

pub returns-in_err-to : goal.returns-in_err-to
returns-in_err-to c = rw c.from_residual-in_err-to.ensures
    (λ paths asked. c.in_err-to.ensures paths.to (subst (λ (text : List ℕ). IsLenientTime text paths.to) (sym (c.as_bytes-2.ensures.value ∙ c.as_str-2.ensures)) asked.2))

pub returns-in_err-count : goal.returns-in_err-count
returns-in_err-count c = rw c.from_residual-in_err-count.ensures
    (λ paths asked. c.in_err-count.ensures paths.count (subst (λ (text : List ℕ). IsPathCount text paths.count) (sym (c.as_bytes-3.ensures.value ∙ c.as_str-3.ensures)) asked.3))
