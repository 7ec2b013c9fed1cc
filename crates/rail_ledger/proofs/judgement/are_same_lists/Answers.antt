use Rattle.std.specs.Cmp.{unsigned_Decides}
use Rattle.std.proofs.lemmas.Slice.Eq.{slice_eq-Decides}
use Rattle.rail_ledger.proofs.judgement.are_same_lists.Goals as goal

pub returns : goal.returns
returns c = slice_eq-Decides unsigned_Decides c.args.list.now c.args.trains.now c.eq.result c.eq.ensures
