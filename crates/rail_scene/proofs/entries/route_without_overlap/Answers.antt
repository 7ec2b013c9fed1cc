use Rattle.std.proofs.Common.{◌≡◌, [], IfErr, Some, None, List, length, refl, sym, ap, ◌∙◌, subst, arith, option_and_then, rules}
use Rattle.std.specs.Option.{option_map_or}
use Rattle.toml.specs.Data.{Data}
use Rattle.toml.specs.View.{view}
use Rattle.rail_base.specs.FirstRefusals.{first_failing}
use Rattle.rail_track.specs.NetFaults.{Answers}
use Rattle.rail_scene.specs.declared.keys.TheConstants.{FIRST_ROUTE_KEYS, FROM, NAME, PATH, TO}
use Rattle.rail_scene.specs.Entries.{steps_of}
use Rattle.rail_scene.specs.Fields.{elements_of, is_path_count, name_at, name_in, names_in}
use Rattle.rail_scene.specs.Values.{list_tests}
use Rattle.rail_scene.proofs.MemberWalk.{at_key}
use Rattle.rail_scene.proofs.entries.route_without_overlap.Goals as goal

pub returns-in_err-path-clause-refused : goal.returns-in_err-path-clause-refused
returns-in_err-path-clause-refused c =
    let node = view c.args.table.now in
    let name_is : name_at NAME node ≡ Some c.in_ok-name.name = ap (option_and_then name_in) (sym (at_key FIRST_ROUTE_KEYS c.values_of.result node 0 c.index-values_of-0.result NAME (omega arith) c.values_of.ensures)) ∙ c.in_ok-name.ensures in
    let from_is : name_at FROM node ≡ Some c.in_ok-from.from = ap (option_and_then name_in) (sym (at_key FIRST_ROUTE_KEYS c.values_of.result node 1 c.index-values_of-1.result FROM (omega arith) c.values_of.ensures)) ∙ c.in_ok-from.ensures in
    let to_is : name_at TO node ≡ Some c.in_ok-to.to = ap (option_and_then name_in) (sym (at_key FIRST_ROUTE_KEYS c.values_of.result node 2 c.index-values_of-2.result TO (omega arith) c.values_of.ensures)) ∙ c.in_ok-to.ensures in
    let values_are = ap (λ value. option_map_or elements_of value []) (at_key FIRST_ROUTE_KEYS c.values_of.result node 3 c.index-values_of-3.result PATH (omega arith) c.values_of.ensures) in
    let tests = λ (values : List Data). first_failing (list_tests 4 (is_path_count (length values)) values) in
    rw (name_is, from_is, to_is) (subst (λ values. IfErr c.from_residual-in_err-path.result (Answers (tests values))) values_are (search rules))

pub returns-clause-accepted : goal.returns-clause-accepted
returns-clause-accepted c =
    let node = view c.args.table.now in
    let name_is : name_at NAME node ≡ Some c.in_ok-name.name = ap (option_and_then name_in) (sym (at_key FIRST_ROUTE_KEYS c.values_of.result node 0 c.index-values_of-0.result NAME (omega arith) c.values_of.ensures)) ∙ c.in_ok-name.ensures in
    let from_is : name_at FROM node ≡ Some c.in_ok-from.from = ap (option_and_then name_in) (sym (at_key FIRST_ROUTE_KEYS c.values_of.result node 1 c.index-values_of-1.result FROM (omega arith) c.values_of.ensures)) ∙ c.in_ok-from.ensures in
    let to_is : name_at TO node ≡ Some c.in_ok-to.to = ap (option_and_then name_in) (sym (at_key FIRST_ROUTE_KEYS c.values_of.result node 2 c.index-values_of-2.result TO (omega arith) c.values_of.ensures)) ∙ c.in_ok-to.ensures in
    let values_are = ap (λ value. option_map_or elements_of value []) (at_key FIRST_ROUTE_KEYS c.values_of.result node 3 c.index-values_of-3.result PATH (omega arith) c.values_of.ensures) in
    rw (name_is, from_is, to_is) (subst (λ values. first_failing (list_tests 4 (is_path_count (length values)) values) ≡ None) values_are c.in_ok-path.ensures.accepted)

pub returns-clause-spelled : goal.returns-clause-spelled
returns-clause-spelled c =
    let node = view c.args.table.now in
    let name_is : name_at NAME node ≡ Some c.in_ok-name.name = ap (option_and_then name_in) (sym (at_key FIRST_ROUTE_KEYS c.values_of.result node 0 c.index-values_of-0.result NAME (omega arith) c.values_of.ensures)) ∙ c.in_ok-name.ensures in
    let from_is : name_at FROM node ≡ Some c.in_ok-from.from = ap (option_and_then name_in) (sym (at_key FIRST_ROUTE_KEYS c.values_of.result node 1 c.index-values_of-1.result FROM (omega arith) c.values_of.ensures)) ∙ c.in_ok-from.ensures in
    let to_is : name_at TO node ≡ Some c.in_ok-to.to = ap (option_and_then name_in) (sym (at_key FIRST_ROUTE_KEYS c.values_of.result node 2 c.index-values_of-2.result TO (omega arith) c.values_of.ensures)) ∙ c.in_ok-to.ensures in
    let values_are = ap (λ value. option_map_or elements_of value []) (at_key FIRST_ROUTE_KEYS c.values_of.result node 3 c.index-values_of-3.result PATH (omega arith) c.values_of.ensures) in
    let steps_are = c.from_vec.ensures ∙ c.in_ok-steps_of.ensures.steps ∙ ap steps_of (c.as_slice.ensures.value ∙ c.in_ok-path.ensures.names ∙ ap names_in values_are) in
    rw (name_is, from_is, to_is, steps_are, c.from_vec-2.ensures, c.new.ensures.items) refl
