use Rattle.std.proofs.Common.{ℕ, List, [], not, ap, ◌∙◌}
use Rattle.std.specs.List.{list_any}
use Rattle.std.specs.Option.{option_map_or}
use Rattle.rail_scene.specs.Forms.{is_known, member_keys}
use Rattle.rail_scene.proofs.Views.{any_key}
use Rattle.rail_scene.proofs.forms.has_unknown.Goals as goal

pub returns-in-Some : goal.returns-in-Some
returns-in-Some c =
    let unknown = λ (text : List ℕ). not (is_known c.args.keys.now text) in
    c.has_unknown_key.ensures ∙ any_key unknown c.in-Some.table.now.entries ∙ ap (λ o. list_any unknown (option_map_or member_keys o [])) c.in-Some.ensures
