use Rattle.std.proofs.Common.{ap}
use Rattle.rail_slots.proofs.Ahead.{once}
use Rattle.rail_slots.proofs.slots.Slots.spare.Goals as goal

pub returns-clause-once : goal.returns-clause-once
returns-clause-once g c = λ slot.
    let s = c.self.inside in
    once s.next.items s.items.items s.chains s.spare c.args.self.now.chains c.self.invariant.sound (ap (λ r. r.chains) c.self.view_is) slot
