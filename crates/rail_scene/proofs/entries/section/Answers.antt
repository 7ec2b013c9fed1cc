use Rattle.std.proofs.Common.{◌≡◌, ◌==◌, [], IfErr, Some, None, List, length, refl, sym, ap, ◌∙◌, subst, arith, option_and_then, rules}
use Rattle.std.specs.Option.{option_map_or}
use Rattle.toml.specs.Data.{Data, as_str}
use Rattle.toml.specs.View.{view}
use Rattle.rail_base.specs.FirstRefusals.{first_failing}
use Rattle.rail_track.specs.NetFaults.{Answers}
use Rattle.rail_track.specs.SectionRules.{joint_count}
use Rattle.rail_scene.specs.declared.keys.TheConstants.{JOINTS, NAME, SECTION_KEYS, SECTION_KIND, SECTION_LENGTH, SPEED}
use Rattle.rail_scene.specs.Fields.{elements_of, kind_at, kind_named, name_at, name_in, names_in, number_at, number_by}
use Rattle.rail_scene.specs.Values.{list_tests}
use Rattle.rail_scene.proofs.MemberWalk.{at_key}
use Rattle.rail_scene.proofs.entries.section.Goals as goal

pub returns-in_err-joints-clause-refused : goal.returns-in_err-joints-clause-refused
returns-in_err-joints-clause-refused c =
    let node = view c.args.table.now in
    let name_is : name_at NAME node ≡ Some c.in_ok-name.name = ap (option_and_then name_in) (sym (at_key SECTION_KEYS c.values_of.result node 0 c.index-values_of-0.result NAME (omega arith) c.values_of.ensures)) ∙ c.in_ok-name.ensures in
    let kind_is : kind_at SECTION_KIND node ≡ Some c.in_ok-kind.kind = ap (λ value. option_and_then kind_named (option_and_then as_str value)) (sym (at_key SECTION_KEYS c.values_of.result node 1 c.index-values_of-1.result SECTION_KIND (omega arith) c.values_of.ensures)) ∙ c.in_ok-kind.ensures in
    let length_is : number_at SECTION_LENGTH node ≡ Some c.in_ok-length.length = ap (number_by SECTION_LENGTH.form) (sym (at_key SECTION_KEYS c.values_of.result node 2 c.index-values_of-2.result SECTION_LENGTH (omega arith) c.values_of.ensures)) ∙ c.in_ok-length.ensures in
    let speed_is : number_at SPEED node ≡ Some c.in_ok-speed.speed = ap (number_by SPEED.form) (sym (at_key SECTION_KEYS c.values_of.result node 3 c.index-values_of-3.result SPEED (omega arith) c.values_of.ensures)) ∙ c.in_ok-speed.ensures in
    let values_are = ap (λ value. option_map_or elements_of value []) (at_key SECTION_KEYS c.values_of.result node 4 c.index-values_of-4.result JOINTS (omega arith) c.values_of.ensures) in
    let tests = λ (values : List Data). first_failing (list_tests 5 (length values == joint_count c.in_ok-kind.kind) values) in
    rw (name_is, kind_is, length_is, speed_is) (subst (λ values. IfErr c.from_residual-in_err-joints.result (Answers (tests values))) values_are (search rules))

pub returns-clause-accepted : goal.returns-clause-accepted
returns-clause-accepted c =
    let node = view c.args.table.now in
    let name_is : name_at NAME node ≡ Some c.in_ok-name.name = ap (option_and_then name_in) (sym (at_key SECTION_KEYS c.values_of.result node 0 c.index-values_of-0.result NAME (omega arith) c.values_of.ensures)) ∙ c.in_ok-name.ensures in
    let kind_is : kind_at SECTION_KIND node ≡ Some c.in_ok-kind.kind = ap (λ value. option_and_then kind_named (option_and_then as_str value)) (sym (at_key SECTION_KEYS c.values_of.result node 1 c.index-values_of-1.result SECTION_KIND (omega arith) c.values_of.ensures)) ∙ c.in_ok-kind.ensures in
    let length_is : number_at SECTION_LENGTH node ≡ Some c.in_ok-length.length = ap (number_by SECTION_LENGTH.form) (sym (at_key SECTION_KEYS c.values_of.result node 2 c.index-values_of-2.result SECTION_LENGTH (omega arith) c.values_of.ensures)) ∙ c.in_ok-length.ensures in
    let speed_is : number_at SPEED node ≡ Some c.in_ok-speed.speed = ap (number_by SPEED.form) (sym (at_key SECTION_KEYS c.values_of.result node 3 c.index-values_of-3.result SPEED (omega arith) c.values_of.ensures)) ∙ c.in_ok-speed.ensures in
    let values_are = ap (λ value. option_map_or elements_of value []) (at_key SECTION_KEYS c.values_of.result node 4 c.index-values_of-4.result JOINTS (omega arith) c.values_of.ensures) in
    rw (name_is, kind_is, length_is, speed_is) (subst (λ values. first_failing (list_tests 5 (length values == joint_count c.in_ok-kind.kind) values) ≡ None) values_are c.in_ok-joints.ensures.accepted)

pub returns-clause-spelled : goal.returns-clause-spelled
returns-clause-spelled c =
    let node = view c.args.table.now in
    let name_is : name_at NAME node ≡ Some c.in_ok-name.name = ap (option_and_then name_in) (sym (at_key SECTION_KEYS c.values_of.result node 0 c.index-values_of-0.result NAME (omega arith) c.values_of.ensures)) ∙ c.in_ok-name.ensures in
    let kind_is : kind_at SECTION_KIND node ≡ Some c.in_ok-kind.kind = ap (λ value. option_and_then kind_named (option_and_then as_str value)) (sym (at_key SECTION_KEYS c.values_of.result node 1 c.index-values_of-1.result SECTION_KIND (omega arith) c.values_of.ensures)) ∙ c.in_ok-kind.ensures in
    let length_is : number_at SECTION_LENGTH node ≡ Some c.in_ok-length.length = ap (number_by SECTION_LENGTH.form) (sym (at_key SECTION_KEYS c.values_of.result node 2 c.index-values_of-2.result SECTION_LENGTH (omega arith) c.values_of.ensures)) ∙ c.in_ok-length.ensures in
    let speed_is : number_at SPEED node ≡ Some c.in_ok-speed.speed = ap (number_by SPEED.form) (sym (at_key SECTION_KEYS c.values_of.result node 3 c.index-values_of-3.result SPEED (omega arith) c.values_of.ensures)) ∙ c.in_ok-speed.ensures in
    let values_are = ap (λ value. option_map_or elements_of value []) (at_key SECTION_KEYS c.values_of.result node 4 c.index-values_of-4.result JOINTS (omega arith) c.values_of.ensures) in
    let joints_are = c.from_vec.ensures ∙ c.in_ok-joints.ensures.names ∙ ap names_in values_are in
    rw (name_is, kind_is, length_is, speed_is, joints_are) refl
