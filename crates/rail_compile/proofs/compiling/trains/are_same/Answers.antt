use Rattle.std.specs.Cmp.Lexicographic.{bytes_decides}
use Rattle.std.proofs.lemmas.Slice.Eq.{slice_eq-Decides}
use Rattle.rail_compile.proofs.compiling.trains.are_same.Goals as goal

pub returns : goal.returns
returns c = slice_eq-Decides bytes_decides c.args.names.now c.args.others.now c.eq.result c.eq.ensures
