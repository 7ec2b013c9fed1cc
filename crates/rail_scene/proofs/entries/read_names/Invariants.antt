use Rattle.std.proofs.Common.{◌≡◌, ◌++◌, drop, map}
use Rattle.toml.specs.View.{view}
use Rattle.rail_scene.specs.Fields.{names_in, are_names}
use Rattle.rail_scene.proofs.entries.read_names.Given as goal

abbrev pub invariant-loop-value : goal.invariant-loop-value
invariant-loop-value l =
    (l.names.items ++ names_in (map view (drop l.value-index l.values)) ≡ names_in (map view l.values))
    × (are_names (map view (drop l.value-index l.values)) ≡ are_names (map view l.values))
