use Rattle.std.proofs.Common.{◌≡◌, replicate, Option, None, ℕ, subst, arith}
use Rattle.std.specs.Prelude.{IfOk}
use Rattle.rail_state.proofs.QueueRoom.{many_sections}
use Rattle.rail_state.proofs.run_state.free_sections.Goals as goal

pub returns : goal.returns
returns c = subst (λ (n : ℕ). IfOk c.new.result (λ holders. holders ≡ replicate {A = Option ℕ} n None))
    (omega (arith, c.len.ensures.len, many_sections c.args.plant.now c.names.result.now.sections.keys c.names.ensures.sections, c.names.ensures.few_sections))
    c.new.ensures
