use Rattle.std.proofs.Common.{◌≡◌, drop}
use Rattle.toml.specs.View.{view}
use Rattle.rail_base.specs.FirstRefusals.{first_failing}
use Rattle.rail_scene.specs.Order.{values_of, with_lists}
use Rattle.rail_scene.proofs.draft.Draft.add_lists.Given as goal

abbrev pub invariant-loop-part : goal.invariant-loop-part
invariant-loop-part l =
    (first_failing (values_of l.version (view l.root) l.self (drop l.part-index l.parts)) ≡ first_failing (values_of l.version (view l.root) l.initial.self l.parts))
    × (with_lists l.version (view l.root) (drop l.part-index l.parts) l.self ≡ with_lists l.version (view l.root) l.parts l.initial.self)
