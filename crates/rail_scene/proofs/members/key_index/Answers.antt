use Rattle.std.proofs.Common.{◌≡◌, false, true, get_or, sym, ap, ◌∙◌}
use Rattle.rail_base.specs.NameForms.{same_name}
use Rattle.rail_scene.specs.declared.keys.KeyForm.TheVariants.{Name}
use Rattle.rail_scene.specs.declared.keys.Key.{Key}
use Rattle.rail_scene.specs.declared.keys.KeyName.TheVariants.{Version}
use Rattle.rail_scene.proofs.MemberWalk.{is_position, is_text}
use Rattle.rail_scene.proofs.members.key_index.Goals as goal

pub returns-then-eq : goal.returns-then-eq
returns-then-eq c =
    let at = get_or c.args.order.now c.args.place 0 in
    let no_key : Key = record { name = Version; form = Name; required = false } in
    let named : is_text c.args.text.now (get_or c.args.keys.now at no_key) ≡ true = ap (λ t. same_name t c.args.text.now) (sym c.text.ensures.text) ∙ sym c.eq.ensures ∙ c.if-eq.true in
    sym (is_position c.args.keys.now c.args.text.now at no_key c.requires.distinct c.if-index-keys.true named)
