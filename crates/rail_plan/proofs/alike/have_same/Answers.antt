use Rattle.std.specs.Cmp.{unsigned_Decides}
use Rattle.std.proofs.lemmas.Slice.Eq.{slice_eq-Decides}
use Rattle.rail_plan.proofs.alike.have_same.Goals as goal

pub returns : goal.returns
returns c = slice_eq-Decides unsigned_Decides c.args.sections.now c.args.others.now c.eq.result c.eq.ensures
