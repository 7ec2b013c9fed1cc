use Rattle.std.proofs.Common.{◌≡◌, ◌-◌, ◌++◌}
use Rattle.rail_gen.specs.MadeScenes.{coins}
use Rattle.rail_gen.proofs.trains.coins.Given as goal

abbrev pub invariant-loop-turn : goal.invariant-loop-turn
invariant-loop-turn l = record {
  value : l.all.items ++ (coins (l.count - l._turn) l.words).0 ≡ (coins l.count l.fn.words).0;
  rest : (coins (l.count - l._turn) l.words).1 ≡ (coins l.count l.fn.words).1;
}
