use Rattle.std.proofs.Common.{[], get_or, length}
use Rattle.rail_queue.specs.Removal.{IsCleared, is_other}
use Rattle.rail_queue.proofs.removal.take_out_first.Given as goal

abbrev pub invariant-loop-first : goal.invariant-loop-first
invariant-loop-first l = IsCleared (is_other l.class l.number) l.initial.slots l.slots l.chain

abbrev pub decreases-loop-first : goal.decreases-loop-first
decreases-loop-first l = length (get_or l.slots.chains l.chain [])
