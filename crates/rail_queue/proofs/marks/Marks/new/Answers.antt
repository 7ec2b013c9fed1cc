use Rattle.rail_queue.proofs.Marked.{none_marked}
use Rattle.rail_queue.proofs.marks.Marks.new.Goals as goal

pub returns : goal.returns
returns c = none_marked 16
