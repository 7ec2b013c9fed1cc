use Rattle.std.proofs.Common.{◌+◌}
use Rattle.rail_compile.specs.Itineraries.{with_trains}
use Rattle.rail_compile.proofs.Trains.{passed_under}
use Rattle.rail_compile.proofs.compiling.trains.row_at.Goals as goal

pub row_behind-requires-clause-passed : goal.row_behind-requires-clause-passed
row_behind-requires-clause-passed c =
    let before = c.index-trains-number.result in
    passed_under (with_trains c.args.scene.now c.args.trains.now) (c.in-Some.number + 1) (c.args.index + 1) before
    (c.requires.passed c.in-Some.number before c.in-Some.ensures.before c.index-trains-number.is)
