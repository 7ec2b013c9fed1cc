use Rattle.std.proofs.Common.{ap, sym, ◌∙◌}
use Rattle.rail_routes.specs.Net.{Net}
use Rattle.rail_routes.specs.PostRules.{post_refusal}
use Rattle.rail_routes.specs.NetworkFields.{lists_of}
use Rattle.rail_routes.proofs.PostChanges.{sound_with_portal, sound_with_signal, sound_with_board}
use Rattle.rail_routes.specs.declared.items.PostRole.TheVariants.{Portal, Signal, Board}
use Rattle.rail_routes.proofs.Restorings.{added_found, added_taken, new_by_tests}
use Rattle.rail_routes.proofs.network.Network.add_post.Goals as goal

pub invariant_of-self : goal.invariant_of-self
invariant_of-self c =
    let is = c.self.invariant in
    let post = c.args.post in
    rw c.in_ok-push-in-Portal.ensures.ok record {
      sound = sound_with_portal (lists_of c.self.inside) post is.sound c.requires (ap (λ (net : Net). post_refusal net post) c.self.view_is ∙ sym c.in_default.ensures) c.in-Portal.is;
      claimed = is.claimed;
      turned = is.turned;
      routed = is.routed;
    }

pub invariant_of-self-in-Continue-branch-2 : goal.invariant_of-self-in-Continue-branch-2
invariant_of-self-in-Continue-branch-2 c =
    let is = c.self.invariant in
    let post = c.args.post in
    rw c.in_ok-push-in-Signal.ensures.ok record {
      sound = sound_with_signal (lists_of c.self.inside) post is.sound c.requires (ap (λ (net : Net). post_refusal net post) c.self.view_is ∙ sym c.in_default.ensures) c.in-Signal.is;
      claimed = is.claimed;
      turned = is.turned;
      routed = is.routed;
    }

pub invariant_of-self-in-Continue-branch-3 : goal.invariant_of-self-in-Continue-branch-3
invariant_of-self-in-Continue-branch-3 c =
    let is = c.self.invariant in
    let post = c.args.post in
    rw c.in_ok-push-in-Board.ensures.ok record {
      sound = sound_with_board (lists_of c.self.inside) post is.sound c.requires (ap (λ (net : Net). post_refusal net post) c.self.view_is ∙ sym c.in_default.ensures) c.in-Board.is;
      claimed = is.claimed;
      turned = is.turned;
      routed = is.routed;
    }

pub returns-in_ok-push-in-Portal-clause-sound : goal.returns-in_ok-push-in-Portal-clause-sound
returns-in_ok-push-in-Portal-clause-sound c = rw c.in_ok-push-in-Portal.ensures.ok (sound_with_portal (lists_of c.self.inside) c.args.post c.self.invariant.sound c.requires (ap (λ (net : Net). post_refusal net c.args.post) c.self.view_is ∙ sym c.in_default.ensures) c.in-Portal.is)

pub returns-in_ok-push-in-Signal-clause-sound : goal.returns-in_ok-push-in-Signal-clause-sound
returns-in_ok-push-in-Signal-clause-sound c = rw c.in_ok-push-in-Signal.ensures.ok (sound_with_signal (lists_of c.self.inside) c.args.post c.self.invariant.sound c.requires (ap (λ (net : Net). post_refusal net c.args.post) c.self.view_is ∙ sym c.in_default.ensures) c.in-Signal.is)

pub returns-in_ok-push-in-Board-clause-sound : goal.returns-in_ok-push-in-Board-clause-sound
returns-in_ok-push-in-Board-clause-sound c = rw c.in_ok-push-in-Board.ensures.ok (sound_with_board (lists_of c.self.inside) c.args.post c.self.invariant.sound c.requires (ap (λ (net : Net). post_refusal net c.args.post) c.self.view_is ∙ sym c.in_default.ensures) c.in-Board.is)

pub returns-in_ok-push-in-Portal-clause-found : goal.returns-in_ok-push-in-Portal-clause-found
returns-in_ok-push-in-Portal-clause-found c =
    let new = new_by_tests (lists_of c.self.inside) c.args.post (ap (λ (net : Net). post_refusal net c.args.post) c.self.view_is ∙ sym c.in_default.ensures) in
    rw c.in_ok-push-in-Portal.ensures.ok (added_found c.args.post (lists_of c.self.inside) new Portal)

pub returns-in_ok-push-in-Portal-clause-back : goal.returns-in_ok-push-in-Portal-clause-back
returns-in_ok-push-in-Portal-clause-back c =
    let new = new_by_tests (lists_of c.self.inside) c.args.post (ap (λ (net : Net). post_refusal net c.args.post) c.self.view_is ∙ sym c.in_default.ensures) in
    rw c.in_ok-push-in-Portal.ensures.ok (added_taken c.args.post (lists_of c.self.inside) new Portal ∙ c.self.view_is)

pub returns-in_ok-push-in-Signal-clause-found : goal.returns-in_ok-push-in-Signal-clause-found
returns-in_ok-push-in-Signal-clause-found c =
    let new = new_by_tests (lists_of c.self.inside) c.args.post (ap (λ (net : Net). post_refusal net c.args.post) c.self.view_is ∙ sym c.in_default.ensures) in
    rw c.in_ok-push-in-Signal.ensures.ok (added_found c.args.post (lists_of c.self.inside) new Signal)

pub returns-in_ok-push-in-Signal-clause-back : goal.returns-in_ok-push-in-Signal-clause-back
returns-in_ok-push-in-Signal-clause-back c =
    let new = new_by_tests (lists_of c.self.inside) c.args.post (ap (λ (net : Net). post_refusal net c.args.post) c.self.view_is ∙ sym c.in_default.ensures) in
    rw c.in_ok-push-in-Signal.ensures.ok (added_taken c.args.post (lists_of c.self.inside) new Signal ∙ c.self.view_is)

pub returns-in_ok-push-in-Board-clause-found : goal.returns-in_ok-push-in-Board-clause-found
returns-in_ok-push-in-Board-clause-found c =
    let new = new_by_tests (lists_of c.self.inside) c.args.post (ap (λ (net : Net). post_refusal net c.args.post) c.self.view_is ∙ sym c.in_default.ensures) in
    rw c.in_ok-push-in-Board.ensures.ok (added_found c.args.post (lists_of c.self.inside) new Board)

pub returns-in_ok-push-in-Board-clause-back : goal.returns-in_ok-push-in-Board-clause-back
returns-in_ok-push-in-Board-clause-back c =
    let new = new_by_tests (lists_of c.self.inside) c.args.post (ap (λ (net : Net). post_refusal net c.args.post) c.self.view_is ∙ sym c.in_default.ensures) in
    rw c.in_ok-push-in-Board.ensures.ok (added_taken c.args.post (lists_of c.self.inside) new Board ∙ c.self.view_is)
