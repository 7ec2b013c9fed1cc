use Rattle.std.proofs.Common.{ap}
use Rattle.rail_policy.specs.Desks.{run_seats}
use Rattle.rail_forms.proofs.Progress.{at_start}
use Rattle.rail_forms.proofs.beginning.Begun.new.Goals as goal

pub returns-clause-seats : goal.returns-clause-seats
returns-clause-seats g c = ap run_seats c.in_ok-engine.ensures.desk

pub returns-clause-begun : goal.returns-clause-begun
returns-clause-begun g c = at_start c.in_ok-engine.engine.core _ _ c.in_ok-engine.ensures.desk c.in_ok-engine.ensures.begun c.requires.marks
