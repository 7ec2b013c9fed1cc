use Rattle.std.proofs.Common.{ℕ, not, sym, ap, ◌∙◌}
use Rattle.std.specs.List.{filter}
use Rattle.rail_queue.specs.declared.event.Class.TheVariants.{Ready}
use Rattle.rail_queue.specs.Order.{is_of}
use Rattle.rail_state.proofs.CommandEvents.{none_forgotten, one_forgotten}
use Rattle.rail_state.proofs.run_state.forget_cancelled.Goals as goal

pub returns-in-Some-clause-events : goal.returns-in-Some-clause-events
returns-in-Some-clause-events c =
    c.forget.ensures.events
    ∙ ap (λ (t : ℕ). filter (λ event. not (is_of Ready t event)) c.args.queue.now.events) c.train.view_is
    ∙ one_forgotten c.args.order.now c.in-Some.train c.args.queue.now.events (sym c.in-Some.ensures)

pub returns-in_default-clause-events : goal.returns-in_default-clause-events
returns-in_default-clause-events c = none_forgotten c.args.order.now c.args.queue.now.events (sym c.in_default.ensures)
