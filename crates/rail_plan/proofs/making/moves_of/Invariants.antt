use Rattle.std.proofs.Common.{◌<◌}
use Rattle.std.specs.List.{All}
use Rattle.rail_plan.specs.Alike.{IsMadeTo}
use Rattle.rail_plan.proofs.making.moves_of.Given as goal

abbrev pub invariant-loop-index : goal.invariant-loop-index
invariant-loop-index l = record {
  made : IsMadeTo l.tables l.index l.moves;
  kept : All (λ k. k < l.index) l.kept.items;
}
