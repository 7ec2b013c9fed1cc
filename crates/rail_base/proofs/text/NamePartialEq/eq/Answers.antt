use Rattle.std.proofs.Common.{◌∙◌}
use Rattle.rail_base.specs.NameForms.{same_name}
use Rattle.rail_base.proofs.Storing.{same_stored}
use Rattle.rail_base.proofs.text.NamePartialEq.eq.Goals as goal

-- the rooms are compared in place of the bytes in front
pub returns-then-self-other : goal.returns-then-self-other
returns-then-self-other c =
    c.eq.ensures
    ∙ same_stored c.self.inside c.other.inside c.self.invariant c.other.invariant c.if-self-other.true
    ∙ (λ i. same_name (c.self.view_is i) (c.other.view_is i))
