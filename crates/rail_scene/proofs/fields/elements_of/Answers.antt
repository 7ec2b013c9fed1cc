use Rattle.std.proofs.Common.{[], map, ap, sym, ◌∙◌}
use Rattle.std.specs.Option.{option_map_or}
use Rattle.toml.specs.View.{view}
use Rattle.rail_scene.specs.Fields.{listed}
use Rattle.rail_scene.proofs.Views.{listed_view}
use Rattle.rail_scene.proofs.fields.elements_of.Goals as goal

pub returns-in-Some : goal.returns-in-Some
returns-in-Some c = ap (map view) c.as_slice.ensures.value ∙ sym (listed_view c.in-Some.array.now.items) ∙ ap (λ o. option_map_or listed o []) c.in-Some.ensures
