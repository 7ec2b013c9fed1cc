use Rattle.rail_slots.specs.Slots.{left_from}
use Rattle.rail_queue.specs.Walk.{IsReached}
use Rattle.rail_queue.proofs.chains.last_not_after.Given as goal

abbrev pub invariant-loop-next : goal.invariant-loop-next
invariant-loop-next l = IsReached l.initial.slots l.slots l.chain l.event l.at

-- how many slots are left to the end of the chain
abbrev pub decreases-loop-next : goal.decreases-loop-next
decreases-loop-next l = left_from l.slots.chains l.at
