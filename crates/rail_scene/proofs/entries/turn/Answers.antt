use Rattle.std.proofs.Common.{◌≡◌, Some, refl, sym, ap, ◌∙◌, arith, option_and_then}
use Rattle.rail_scene.specs.declared.keys.TheConstants.{ARRIVING, LEAVING, TURN_KEYS, TURN_TIME}
use Rattle.rail_scene.specs.Fields.{name_at, name_in, number_at, number_by}
use Rattle.toml.specs.View.{view}
use Rattle.rail_scene.proofs.MemberWalk.{at_key}
use Rattle.rail_scene.proofs.entries.turn.Goals as goal

pub returns-clause-spelled : goal.returns-clause-spelled
returns-clause-spelled c =
    let node = view c.args.table.now in
    let arriving_is : name_at ARRIVING node ≡ Some c.in_ok-read_name.field-0 = ap (option_and_then name_in) (sym (at_key TURN_KEYS c.values_of.result node 0 c.index-values_of-0.result ARRIVING (omega arith) c.values_of.ensures)) ∙ c.in_ok-read_name.ensures in
    let leaving_is : name_at LEAVING node ≡ Some c.in_ok-read_name-2.field-0 = ap (option_and_then name_in) (sym (at_key TURN_KEYS c.values_of.result node 1 c.index-values_of-1.result LEAVING (omega arith) c.values_of.ensures)) ∙ c.in_ok-read_name-2.ensures in
    let turn_time_is : number_at TURN_TIME node ≡ Some c.in_ok-read_number.field-0 = ap (number_by TURN_TIME.form) (sym (at_key TURN_KEYS c.values_of.result node 2 c.index-values_of-2.result TURN_TIME (omega arith) c.values_of.ensures)) ∙ c.in_ok-read_number.ensures in
    rw (arriving_is, leaving_is, turn_time_is) refl
