use Rattle.std.proofs.Common.{◌≡◌, Some, refl, sym, ap, ◌∙◌, arith, option_and_then}
use Rattle.rail_scene.specs.declared.keys.TheConstants.{BOARD_KEYS, JOINT, NAME}
use Rattle.rail_scene.specs.Fields.{name_at, name_in}
use Rattle.toml.specs.View.{view}
use Rattle.rail_scene.proofs.MemberWalk.{at_key}
use Rattle.rail_scene.proofs.entries.board.Goals as goal

pub returns-clause-spelled : goal.returns-clause-spelled
returns-clause-spelled c =
    let node = view c.args.table.now in
    let name_is : name_at NAME node ≡ Some c.in_ok-read_name.field-0 = ap (option_and_then name_in) (sym (at_key BOARD_KEYS c.values_of.result node 0 c.index-values_of-0.result NAME (omega arith) c.values_of.ensures)) ∙ c.in_ok-read_name.ensures in
    let joint_is : name_at JOINT node ≡ Some c.in_ok-read_name-2.field-0 = ap (option_and_then name_in) (sym (at_key BOARD_KEYS c.values_of.result node 1 c.index-values_of-1.result JOINT (omega arith) c.values_of.ensures)) ∙ c.in_ok-read_name-2.ensures in
    rw (name_is, joint_is) refl
