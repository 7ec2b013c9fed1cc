use Rattle.std.proofs.Common.{◌≡◌, ℕ, ◌<◌, true, false, get_or}
use Rattle.rail_scene.specs.declared.keys.Key.{Key}
use Rattle.rail_scene.proofs.forms.has_required.Given as goal

abbrev pub invariant-loop-index : goal.invariant-loop-index
invariant-loop-index l = (i : ℕ) (key : Key) → i < l.index → (get_or l.keys i key).required ≡ true → get_or l.met i false ≡ true
