use Rattle.std.proofs.Common.{false, ap, ◌∙◌}
use Rattle.std.specs.List.{list_all}
use Rattle.std.specs.Option.{option_map_or}
use Rattle.toml.specs.View.{view}
use Rattle.toml.specs.declared.value.Value.{Value}
use Rattle.rail_scene.specs.Fields.{listed}
use Rattle.rail_scene.specs.Forms.{is_string}
use Rattle.rail_scene.proofs.Views.{all_view}
use Rattle.rail_scene.proofs.forms.is_list_of_strings.Goals as goal

pub returns-in-Some : goal.returns-in-Some
returns-in-Some c =
    c.are_strings.ensures
    ∙ ap (list_all (λ (v : Value). is_string (view v))) c.as_slice.ensures.value
    ∙ all_view is_string c.in-Some.array.now.items
    ∙ ap (λ o. option_map_or (λ array. list_all is_string (listed array)) o false) c.in-Some.ensures
