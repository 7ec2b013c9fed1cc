use Rattle.std.proofs.Common.{◌≡◌, ◌-◌, ◌∷◌, ◌++◌, drop, codes, length}
use Rattle.rail_gen.specs.MadeScenes.{westward}
use Rattle.rail_gen.proofs.trains.westward.Given as goal

abbrev pub invariant-loop-index : goal.invariant-loop-index
invariant-loop-index l = l.routes.items ++ westward (length l.tracks - l.index) (drop l.index l.tracks) ≡ codes "wstart" ∷ westward (length l.tracks) l.tracks
