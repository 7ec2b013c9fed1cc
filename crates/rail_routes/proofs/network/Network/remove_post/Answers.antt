use Rattle.std.proofs.Common.{ap, ◌∙◌, sym}
use Rattle.std.specs.Option.{option_or}
use Rattle.rail_routes.specs.Net.{Net, post_named}
use Rattle.rail_routes.specs.Uses.{post_removal}
use Rattle.rail_routes.proofs.Removals.{post_known, post_of_lists, unused}
use Rattle.rail_routes.specs.NetworkFields.{lists_of}
use Rattle.rail_routes.proofs.PostChanges.{sound_without_post}
use Rattle.std.proofs.Common.{IsSomeAnd, subst}
use Rattle.rail_track.proofs.CallerLemmas.{same_from_name}
use Rattle.rail_routes.specs.Net.{is_post, posts}
use Rattle.rail_routes.specs.PostChanges.{PostStoodAt, post_position, without_post}
use Rattle.rail_routes.proofs.Lists.{find_true}
use Rattle.rail_routes.proofs.Restorings.{post_stood}
use Rattle.rail_routes.proofs.network.Network.remove_post.Goals as goal

pub invariant_of-self : goal.invariant_of-self
invariant_of-self c =
    let is = c.self.invariant in
    rw (c.remove-portal.ensures.rest, c.remove-signal.ensures.rest, c.remove-board.ensures.rest) record {
      sound = sound_without_post (lists_of c.self.inside) c.args.name is.sound (unused (lists_of c.self.inside) c.args.name (ap (λ (net : Net). post_removal net c.args.name) c.self.view_is ∙ sym c.in_default.ensures));
      claimed = is.claimed;
      turned = is.turned;
      routed = is.routed;
    }

pub invariant_of-self-2 : goal.invariant_of-self-2
invariant_of-self-2 c =
    let is = c.self.invariant in
    rw (c.remove-portal.ensures.rest, c.remove-signal.ensures.rest, c.remove-board.ensures.rest) record {
      sound = sound_without_post (lists_of c.self.inside) c.args.name is.sound (unused (lists_of c.self.inside) c.args.name (ap (λ (net : Net). post_removal net c.args.name) c.self.view_is ∙ sym c.in_default.ensures));
      claimed = is.claimed;
      turned = is.turned;
      routed = is.routed;
    }

pub returns-in_default-or-clause-refused : goal.returns-in_default-or-clause-refused
returns-in_default-or-clause-refused c =
    let found = post_of_lists c.args.name c.self.inside.portals c.self.inside.signals c.self.inside.boards _ _ _ _ c.remove-portal.ensures.post c.remove-signal.ensures.post c.remove-board.ensures.post (c.or-2.ensures ∙ ap (λ o. option_or o c.remove-board.result) c.or.ensures) in
    absurd (post_known c.args.self.now c.args.name (sym c.in_default.ensures) (ap (post_named c.args.name) (sym c.self.view_is) ∙ sym found ∙ c.in_default-or.is))

pub returns-in_default-or-clause-unchanged : goal.returns-in_default-or-clause-unchanged
returns-in_default-or-clause-unchanged c =
    let found = post_of_lists c.args.name c.self.inside.portals c.self.inside.signals c.self.inside.boards _ _ _ _ c.remove-portal.ensures.post c.remove-signal.ensures.post c.remove-board.ensures.post (c.or-2.ensures ∙ ap (λ o. option_or o c.remove-board.result) c.or.ensures) in
    absurd (post_known c.args.self.now c.args.name (sym c.in_default.ensures) (ap (post_named c.args.name) (sym c.self.view_is) ∙ sym found ∙ c.in_default-or.is))

pub returns-clause-removed : goal.returns-clause-removed
returns-clause-removed c =
    let found = post_of_lists c.args.name c.self.inside.portals c.self.inside.signals c.self.inside.boards _ _ _ _ c.remove-portal.ensures.post c.remove-signal.ensures.post c.remove-board.ensures.post (c.or-2.ensures ∙ ap (λ o. option_or o c.remove-board.result) c.or.ensures) in
    ap (post_named c.args.name) (sym c.self.view_is) ∙ sym found ∙ c.in-Some-or.is

pub returns-in_default-or-clause-sound : goal.returns-in_default-or-clause-sound
returns-in_default-or-clause-sound c =
    rw (c.remove-portal.ensures.rest, c.remove-signal.ensures.rest, c.remove-board.ensures.rest)
    (sound_without_post (lists_of c.self.inside) c.args.name c.self.invariant.sound (unused (lists_of c.self.inside) c.args.name (ap (λ (net : Net). post_removal net c.args.name) c.self.view_is ∙ sym c.in_default.ensures)))

pub returns-clause-sound : goal.returns-clause-sound
returns-clause-sound c =
    rw (c.remove-portal.ensures.rest, c.remove-signal.ensures.rest, c.remove-board.ensures.rest)
    (sound_without_post (lists_of c.self.inside) c.args.name c.self.invariant.sound (unused (lists_of c.self.inside) c.args.name (ap (λ (net : Net). post_removal net c.args.name) c.self.view_is ∙ sym c.in_default.ensures)))

pub returns-clause-named : goal.returns-clause-named
returns-clause-named c =
    let post = c.in-Some-or.post in
    let found = post_of_lists c.args.name c.self.inside.portals c.self.inside.signals c.self.inside.boards _ _ _ _ c.remove-portal.ensures.post c.remove-signal.ensures.post c.remove-board.ensures.post (c.or-2.ensures ∙ ap (λ o. option_or o c.remove-board.result) c.or.ensures) in
    sym (same_from_name c.args.name post.name (find_true (is_post c.args.name) (posts (lists_of c.self.inside)) post (sym found ∙ c.in-Some-or.is)))

pub returns-clause-stood : goal.returns-clause-stood
returns-clause-stood c =
    let net = lists_of c.self.inside in
    let name = c.args.name in
    let post = c.in-Some-or.post in
    let found = post_of_lists name c.self.inside.portals c.self.inside.signals c.self.inside.boards _ _ _ _ c.remove-portal.ensures.post c.remove-signal.ensures.post c.remove-board.ensures.post (c.or-2.ensures ∙ ap (λ o. option_or o c.remove-board.result) c.or.ensures) in
    rw (c.remove-portal.ensures.rest, c.remove-signal.ensures.rest, c.remove-board.ensures.rest)
    (subst (λ (old : Net). IsSomeAnd (post_position name old) (PostStoodAt post (without_post name net) old)) c.self.view_is (post_stood net name post c.self.invariant.sound (sym found ∙ c.in-Some-or.is)))
