use Rattle.std.proofs.Common.{not, ◌&&◌, sym, ap, ◌∙◌}
use Rattle.std.specs.Prelude.{count_by}
use Rattle.rail_queue.specs.declared.event.Class.TheVariants.{Free}
use Rattle.rail_queue.specs.Order.{is_of}
use Rattle.rail_state.proofs.admission.forget_if_taken.Goals as goal

pub returns-then-is_taken-clause-counted : goal.returns-then-is_taken-clause-counted
returns-then-is_taken-clause-counted c = λ q.
    let es = c.args.queue.now.events in
    c.forget_at.ensures.counted q
    ∙ (λ k. count_by (λ e. not (is_of Free (c.section.view_is k) e) && q e) es)
    ∙ ap (λ b. count_by (λ e. not (b && is_of Free c.args.section e) && q e) es) (sym (sym c.is_taken.ensures ∙ c.if-is_taken.true))
