use Rattle.rail_slots.specs.Slots.{left_from}
use Rattle.rail_queue.specs.Removal.{IsSwept, is_other}
use Rattle.rail_queue.proofs.removal.take_out_behind.Given as goal

abbrev pub invariant-loop-next : goal.invariant-loop-next
invariant-loop-next l = IsSwept (is_other l.class l.number) l.initial.slots l.slots l.chain l.at

-- how many slots are left to the end of the chain
abbrev pub decreases-loop-next : goal.decreases-loop-next
decreases-loop-next l = left_from l.slots.chains l.at
