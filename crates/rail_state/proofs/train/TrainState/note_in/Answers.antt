use Rattle.std.proofs.Common.{ℕ, Some, refl, ap, ◌∙◌}
use Rattle.std.proofs.lemmas.Bool.{eq-eqb}
use Rattle.rail_base.specs.declared.history.Cause.{Cause}
use Rattle.rail_state.specs.TrainStates.{is_blocked_at}
use Rattle.rail_state.proofs.train.TrainState.note_in.Goals as goal

pub insert-requires-clause-section : goal.insert-requires-clause-section
insert-requires-clause-section c =
    let x : ℕ = c.in-Some-Blocked.section in
    let e = rw c.in-Some-Blocked.is at c.in-Some-Blocked.field-0-is in
    c.requires.section x (ap (is_blocked_at x) c.in-Some-Blocked.is ∙ ap (λ (why : Cause). is_blocked_at x (Some why)) e ∙ eq-eqb x x refl)
