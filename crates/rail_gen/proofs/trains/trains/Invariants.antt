use Rattle.std.proofs.Common.{◌≡◌, ◌+◌, ◌-◌, ◌++◌}
use Rattle.rail_gen.specs.MadeScenes.{trains_from}
use Rattle.rail_gen.proofs.trains.trains.Given as goal

abbrev pub invariant-loop-n : goal.invariant-loop-n
invariant-loop-n l = l.trains.items ++ trains_from l.count l.n (l.total + 1 - l.n) l.words ≡ trains_from l.count 1 l.total l.fn.words
