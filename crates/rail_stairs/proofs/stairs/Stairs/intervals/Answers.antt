use Rattle.std.proofs.Common.{◌∙◌}
use Rattle.rail_stairs.proofs.Ready.{noted_admissible, noted_rows, noted_stairway}
use Rattle.rail_stairs.proofs.stairs.Stairs.intervals.Goals as goal

pub collect-requires-clause-noted : goal.collect-requires-clause-noted
collect-requires-clause-noted c = noted_rows c.args.plant.now c.requires.front c.args.self.now c.requires.noted

pub collect-requires-clause-admissible : goal.collect-requires-clause-admissible
collect-requires-clause-admissible c = noted_admissible c.args.plant.now c.args.self.now c.requires

pub returns : goal.returns
returns c = λ front h. c.in_ok-collect.ensures ∙ noted_stairway c.args.plant.now front c.args.self.now h
