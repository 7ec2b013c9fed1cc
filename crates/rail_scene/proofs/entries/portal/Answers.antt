use Rattle.std.proofs.Common.{◌≡◌, Some, refl, sym, ap, ◌∙◌, arith, option_and_then}
use Rattle.rail_scene.specs.declared.keys.TheConstants.{APPROACH, JOINT, NAME, PORTAL_KEYS, SETTING, WATCHING}
use Rattle.rail_scene.specs.Fields.{name_at, name_in, number_at, number_by}
use Rattle.toml.specs.View.{view}
use Rattle.rail_scene.proofs.MemberWalk.{at_key}
use Rattle.rail_scene.proofs.entries.portal.Goals as goal

pub returns-clause-spelled : goal.returns-clause-spelled
returns-clause-spelled c =
    let node = view c.args.table.now in
    let name_is : name_at NAME node ≡ Some c.in_ok-read_name.field-0 = ap (option_and_then name_in) (sym (at_key PORTAL_KEYS c.values_of.result node 0 c.index-values_of-0.result NAME (omega arith) c.values_of.ensures)) ∙ c.in_ok-read_name.ensures in
    let joint_is : name_at JOINT node ≡ Some c.in_ok-read_name-2.field-0 = ap (option_and_then name_in) (sym (at_key PORTAL_KEYS c.values_of.result node 1 c.index-values_of-1.result JOINT (omega arith) c.values_of.ensures)) ∙ c.in_ok-read_name-2.ensures in
    let setting_is : number_at SETTING node ≡ Some c.in_ok-read_number.field-0 = ap (number_by SETTING.form) (sym (at_key PORTAL_KEYS c.values_of.result node 2 c.index-values_of-2.result SETTING (omega arith) c.values_of.ensures)) ∙ c.in_ok-read_number.ensures in
    let watching_is : number_at WATCHING node ≡ Some c.in_ok-read_number-2.field-0 = ap (number_by WATCHING.form) (sym (at_key PORTAL_KEYS c.values_of.result node 3 c.index-values_of-3.result WATCHING (omega arith) c.values_of.ensures)) ∙ c.in_ok-read_number-2.ensures in
    let approach_is : number_at APPROACH node ≡ Some c.in_ok-read_number-3.field-0 = ap (number_by APPROACH.form) (sym (at_key PORTAL_KEYS c.values_of.result node 4 c.index-values_of-4.result APPROACH (omega arith) c.values_of.ensures)) ∙ c.in_ok-read_number-3.ensures in
    rw (name_is, joint_is, setting_is, watching_is, approach_is) refl
