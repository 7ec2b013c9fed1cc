use Rattle.std.proofs.Common.{◌≡◌, ◌+◌, ◌∷◌, ◌++◌, drop, codes}
use Rattle.rail_gen.specs.MadeScenes.{eastward}
use Rattle.rail_gen.proofs.trains.eastward.Given as goal

abbrev pub invariant-loop-index : goal.invariant-loop-index
invariant-loop-index l = l.routes.items ++ eastward (l.index + 1) (drop l.index l.tracks) ≡ codes "estart" ∷ eastward 1 l.tracks
