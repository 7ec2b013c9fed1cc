use Rattle.rail_queue.specs.Marks.{AreMarked}
use Rattle.rail_queue.proofs.marks.Marks.note_all.Given as goal

abbrev pub invariant-loop-chain : goal.invariant-loop-chain
invariant-loop-chain l = AreMarked l.self.words l.slots.chains l.chain
