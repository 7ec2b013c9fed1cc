use Rattle.std.proofs.Common.{◌≡◌, None, subst}
use Rattle.std.specs.Result.{OnOk, IfErr}
use Rattle.toml.specs.View.{view}
use Rattle.rail_routes.specs.declared.items.Post.{Post}
use Rattle.rail_routes.specs.PostRules.{post_tests}
use Rattle.rail_base.specs.FirstRefusals.{first_failing}
use Rattle.rail_track.specs.NetFaults.{Answers}
use Rattle.rail_scene.specs.declared.keys.TheConstants.{BOARD_KEYS}
use Rattle.rail_scene.specs.Entries.{board_of}
use Rattle.rail_scene.specs.Values.{value_tests}
use Rattle.rail_scene.proofs.Segments.{answers_before, net_after}
use Rattle.rail_scene.proofs.draft.add_board.Goals as goal

pub returns-in-Err-clause-refused : goal.returns-in-Err-clause-refused
returns-in-Err-clause-refused c =
    let node = view c.args.table.now in
    let net = c.args.network.now in
    answers_before (value_tests 1 BOARD_KEYS node) (post_tests net (board_of node)) c.in-Err.fault c.in-Err.ensures.refused

pub returns-in-Ok-clause-refused : goal.returns-in-Ok-clause-refused
returns-in-Ok-clause-refused c =
    let node = view c.args.table.now in
    let net = c.args.network.now in
    let added = c.add_post.result in
    let accepted : OnOk added (first_failing (post_tests net (board_of node)) ≡ None) = subst (λ (item : Post). OnOk added (first_failing (post_tests net item) ≡ None)) c.in-Ok.ensures.spelled c.add_post.ensures.accepted in
    let refused : IfErr added (Answers (first_failing (post_tests net (board_of node)))) = subst (λ (item : Post). IfErr added (Answers (first_failing (post_tests net item)))) c.in-Ok.ensures.spelled c.add_post.ensures.refused in
    (net_after (value_tests 1 BOARD_KEYS node) (post_tests net (board_of node)) added c.in-Ok.ensures.accepted accepted refused).1

pub returns-in-Ok-clause-accepted : goal.returns-in-Ok-clause-accepted
returns-in-Ok-clause-accepted c =
    let node = view c.args.table.now in
    let net = c.args.network.now in
    let added = c.add_post.result in
    let accepted : OnOk added (first_failing (post_tests net (board_of node)) ≡ None) = subst (λ (item : Post). OnOk added (first_failing (post_tests net item) ≡ None)) c.in-Ok.ensures.spelled c.add_post.ensures.accepted in
    let refused : IfErr added (Answers (first_failing (post_tests net (board_of node)))) = subst (λ (item : Post). IfErr added (Answers (first_failing (post_tests net item)))) c.in-Ok.ensures.spelled c.add_post.ensures.refused in
    (net_after (value_tests 1 BOARD_KEYS node) (post_tests net (board_of node)) added c.in-Ok.ensures.accepted accepted refused).0
