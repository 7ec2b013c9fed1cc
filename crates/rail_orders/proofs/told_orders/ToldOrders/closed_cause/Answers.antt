use Rattle.std.proofs.Common.{get_or, false, sym, ap, ◌∙◌}
use Rattle.rail_orders.specs.OrderTables.{Told}
use Rattle.rail_orders.proofs.Tables.{none_closed}
use Rattle.rail_orders.proofs.told_orders.ToldOrders.closed_cause.Goals as goal

pub returns-then-not-self : goal.returns-then-not-self
returns-then-not-self c = sym (none_closed c.args.self.now c.args.sections.now
    (λ x. ap (λ (told : Told). get_or told.closed x false) (sym c.self.view_is) ∙ c.self.invariant.4 c.if-not-self.true x))
