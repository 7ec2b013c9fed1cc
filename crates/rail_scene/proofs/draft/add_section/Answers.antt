use Rattle.std.proofs.Common.{◌≡◌, List, None, subst}
use Rattle.std.specs.Result.{OnOk, IfErr}
use Rattle.toml.specs.View.{view}
use Rattle.rail_track.specs.declared.section.NetFault.{NetFault}
use Rattle.rail_track.specs.declared.section.Section.{Section}
use Rattle.rail_track.specs.SectionRules.{section_tests}
use Rattle.rail_routes.specs.SectionRules.{is_closed_by}
use Rattle.rail_base.specs.FirstRefusals.{Test, first_failing}
use Rattle.rail_track.specs.NetFaults.{Answers}
use Rattle.rail_base.proofs.CallerLemmas.{passed_up}
use Rattle.rail_scene.specs.declared.keys.TheConstants.{SECTION_KEYS}
use Rattle.rail_scene.specs.Entries.{section_of}
use Rattle.rail_scene.specs.Values.{value_tests}
use Rattle.rail_scene.proofs.Segments.{answers_before, net_after}
use Rattle.rail_scene.proofs.draft.add_section.Goals as goal

pub returns-in_err-item-clause-refused : goal.returns-in_err-item-clause-refused
returns-in_err-item-clause-refused c =
    let node = view c.args.table.now in
    let net = c.args.network.now in
    passed_up c.from_residual.result _ _ c.from_residual.ensures.1
    (answers_before (value_tests 1 SECTION_KEYS node) (section_tests net.sections (is_closed_by net.sections net.portals) (section_of node)) _ c.in_err-item.ensures.refused)

pub returns-clause-refused : goal.returns-clause-refused
returns-clause-refused c =
    let node = view c.args.table.now in
    let net = c.args.network.now in
    let tests : Section → List (Test NetFault) = section_tests net.sections (is_closed_by net.sections net.portals) in
    let added = c.add_section.result in
    let accepted : OnOk added (first_failing (tests (section_of node)) ≡ None) = subst (λ (item : Section). OnOk added (first_failing (tests item) ≡ None)) c.in_ok-item.ensures.spelled c.add_section.ensures.accepted in
    let refused : IfErr added (Answers (first_failing (tests (section_of node)))) = subst (λ (item : Section). IfErr added (Answers (first_failing (tests item)))) c.in_ok-item.ensures.spelled c.add_section.ensures.refused in
    (net_after (value_tests 1 SECTION_KEYS node) (tests (section_of node)) added c.in_ok-item.ensures.accepted accepted refused).1

pub returns-clause-accepted : goal.returns-clause-accepted
returns-clause-accepted c =
    let node = view c.args.table.now in
    let net = c.args.network.now in
    let tests : Section → List (Test NetFault) = section_tests net.sections (is_closed_by net.sections net.portals) in
    let added = c.add_section.result in
    let accepted : OnOk added (first_failing (tests (section_of node)) ≡ None) = subst (λ (item : Section). OnOk added (first_failing (tests item) ≡ None)) c.in_ok-item.ensures.spelled c.add_section.ensures.accepted in
    let refused : IfErr added (Answers (first_failing (tests (section_of node)))) = subst (λ (item : Section). IfErr added (Answers (first_failing (tests item)))) c.in_ok-item.ensures.spelled c.add_section.ensures.refused in
    (net_after (value_tests 1 SECTION_KEYS node) (tests (section_of node)) added c.in_ok-item.ensures.accepted accepted refused).0
