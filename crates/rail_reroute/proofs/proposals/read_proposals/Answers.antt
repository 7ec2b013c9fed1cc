use Rattle.std.proofs.Common.{◌≡◌, ℕ, List, None, map, sym, ap, ◌∙◌, subst}
use Rattle.std.specs.List.{list_all}
use Rattle.rail_base.specs.Refusals.{AnswersFirst}
use Rattle.rail_base.proofs.CallerLemmas.{passed_up}
use Rattle.rail_scene.specs.declared.scene.SceneTrain.{SceneTrain}
use Rattle.rail_text.specs.Lines.{lines_of}
use Rattle.rail_reroute.specs.Proposals.{is_ready, proposals_in, proposals_refusal, route_names, train_names}
use Rattle.rail_reroute.proofs.Ready.{all_ready}
use Rattle.rail_reroute.proofs.proposals.read_proposals.Goals as goal

pub returns-in_err-proposals-clause-refused : goal.returns-in_err-proposals-clause-refused
returns-in_err-proposals-clause-refused c =
    let trains : c.in_ok-trains.trains.keys ≡ train_names c.args.scene.now = c.in_ok-trains.ensures ∙ ap (map (λ (train : SceneTrain). train.name)) c.as_slice.ensures in
    passed_up c.from_residual-in_err-proposals.result c.in_err-proposals.field-0.0
    (AnswersFirst (proposals_refusal (train_names c.args.scene.now) (route_names c.args.scene.now) c.args.bytes.now)) c.from_residual-in_err-proposals.ensures.1
    (subst (λ (names : List (List ℕ)). AnswersFirst (proposals_refusal names (route_names c.args.scene.now) c.args.bytes.now) c.in_err-proposals.field-0.0) trains
    (subst (λ (names : List (List ℕ)). AnswersFirst (proposals_refusal c.in_ok-trains.trains.keys names c.args.bytes.now) c.in_err-proposals.field-0.0) c.requires.lookups.ways.names
    c.in_err-proposals.ensures.refused))

pub returns-clause-ready : goal.returns-clause-ready
returns-clause-ready c =
    let scene = c.args.scene.now in
    let trains : c.in_ok-trains.trains.keys ≡ train_names scene = c.in_ok-trains.ensures ∙ ap (map (λ (train : SceneTrain). train.name)) c.as_slice.ensures in
    let accepted : proposals_refusal (train_names scene) (route_names scene) c.args.bytes.now ≡ None =
    (λ i. proposals_refusal (sym trains i) (sym c.requires.lookups.ways.names i) c.args.bytes.now) ∙ c.in_ok-proposals.ensures.accepted in
    let read : c.from_vec.result ≡ proposals_in (train_names scene) c.args.bytes.now =
    c.from_vec.ensures ∙ c.in_ok-proposals.ensures.read ∙ ap (λ (names : List (List ℕ)). proposals_in names c.args.bytes.now) trains in
    ap (list_all (is_ready scene)) read ∙ all_ready scene (lines_of c.args.bytes.now) accepted
