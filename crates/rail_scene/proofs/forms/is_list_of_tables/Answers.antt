use Rattle.std.proofs.Common.{false, ap, ◌∙◌}
use Rattle.std.specs.List.{list_all}
use Rattle.std.specs.Option.{option_map_or}
use Rattle.toml.specs.View.{view}
use Rattle.toml.specs.declared.value.Value.{Value}
use Rattle.rail_scene.specs.Fields.{listed}
use Rattle.rail_scene.specs.Forms.{is_table}
use Rattle.rail_scene.proofs.Views.{all_view}
use Rattle.rail_scene.proofs.forms.is_list_of_tables.Goals as goal

pub returns-in-Some : goal.returns-in-Some
returns-in-Some c =
    c.are_tables.ensures
    ∙ ap (list_all (λ (v : Value). is_table (view v))) c.as_slice.ensures.value
    ∙ all_view is_table c.in-Some.array.now.items
    ∙ ap (λ o. option_map_or (λ array. list_all is_table (listed array)) o false) c.in-Some.ensures
