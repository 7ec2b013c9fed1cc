use Rattle.rail_queue.specs.Removal.{AreThinned, is_other}
use Rattle.rail_queue.proofs.removal.take_out.Given as goal

abbrev pub invariant-loop-chain : goal.invariant-loop-chain
invariant-loop-chain l = AreThinned (is_other l.class l.number) l.initial.slots l.slots l.chain
