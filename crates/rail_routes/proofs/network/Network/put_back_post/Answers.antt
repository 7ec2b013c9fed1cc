use Rattle.std.proofs.Common.{◌≡◌, insert, subst, sym, ◌∙◌}
use Rattle.rail_routes.specs.declared.items.PostRole.{PostRole}
use Rattle.rail_routes.specs.declared.items.PostRole.TheVariants.{Portal, Signal, Board}
use Rattle.rail_routes.specs.Net.{Net}
use Rattle.rail_routes.specs.NetworkFields.{lists_of}
use Rattle.rail_routes.specs.PostChanges.{with_post_at_as}
use Rattle.rail_routes.specs.SoundNetworks.{IsSoundNetwork}
use Rattle.rail_routes.proofs.Restorings.{new_name, on_ok_more, post_found, post_taken}
use Rattle.rail_routes.proofs.network.Network.put_back_post.Goals as goal

pub insert-requires-clause-fresh : goal.insert-requires-clause-fresh
insert-requires-clause-fresh c =
    let net = lists_of c.self.inside in
    let post = c.args.post in
    let sound = subst (λ (old : Net). IsSoundNetwork (with_post_at_as Portal c.args.index post old)) (sym c.self.view_is) (subst (λ (r : PostRole). IsSoundNetwork (with_post_at_as r c.args.index post c.args.self.now)) c.in-Portal.is c.requires.sound) in
    let new = new_name Portal c.args.index post net sound in
    new.portals

pub returns-in-Portal-clause-found : goal.returns-in-Portal-clause-found
returns-in-Portal-clause-found c =
    let net = lists_of c.self.inside in
    let post = c.args.post in
    let sound = subst (λ (old : Net). IsSoundNetwork (with_post_at_as Portal c.args.index post old)) (sym c.self.view_is) (subst (λ (r : PostRole). IsSoundNetwork (with_post_at_as r c.args.index post c.args.self.now)) c.in-Portal.is c.requires.sound) in
    let new = new_name Portal c.args.index post net sound in
    on_ok_more c.insert.result c.insert.ensures.ok (λ (put : c.insert.new.self ≡ insert net.portals c.args.index post). rw put (post_found post c.args.index net new Portal))

pub returns-in-Portal-clause-back : goal.returns-in-Portal-clause-back
returns-in-Portal-clause-back c =
    let net = lists_of c.self.inside in
    let post = c.args.post in
    let sound = subst (λ (old : Net). IsSoundNetwork (with_post_at_as Portal c.args.index post old)) (sym c.self.view_is) (subst (λ (r : PostRole). IsSoundNetwork (with_post_at_as r c.args.index post c.args.self.now)) c.in-Portal.is c.requires.sound) in
    let new = new_name Portal c.args.index post net sound in
    on_ok_more c.insert.result c.insert.ensures.ok (λ (put : c.insert.new.self ≡ insert net.portals c.args.index post). rw put (post_taken post c.args.index net new Portal ∙ c.self.view_is))

pub insert-requires-in-Signal-clause-fresh : goal.insert-requires-in-Signal-clause-fresh
insert-requires-in-Signal-clause-fresh c =
    let net = lists_of c.self.inside in
    let post = c.args.post in
    let sound = subst (λ (old : Net). IsSoundNetwork (with_post_at_as Signal c.args.index post old)) (sym c.self.view_is) (subst (λ (r : PostRole). IsSoundNetwork (with_post_at_as r c.args.index post c.args.self.now)) c.in-Signal.is c.requires.sound) in
    let new = new_name Signal c.args.index post net sound in
    new.signals

pub returns-in-Signal-clause-found : goal.returns-in-Signal-clause-found
returns-in-Signal-clause-found c =
    let net = lists_of c.self.inside in
    let post = c.args.post in
    let sound = subst (λ (old : Net). IsSoundNetwork (with_post_at_as Signal c.args.index post old)) (sym c.self.view_is) (subst (λ (r : PostRole). IsSoundNetwork (with_post_at_as r c.args.index post c.args.self.now)) c.in-Signal.is c.requires.sound) in
    let new = new_name Signal c.args.index post net sound in
    on_ok_more c.insert-in-Signal.result c.insert-in-Signal.ensures.ok (λ (put : c.insert-in-Signal.new.self ≡ insert net.signals c.args.index post). rw put (post_found post c.args.index net new Signal))

pub returns-in-Signal-clause-back : goal.returns-in-Signal-clause-back
returns-in-Signal-clause-back c =
    let net = lists_of c.self.inside in
    let post = c.args.post in
    let sound = subst (λ (old : Net). IsSoundNetwork (with_post_at_as Signal c.args.index post old)) (sym c.self.view_is) (subst (λ (r : PostRole). IsSoundNetwork (with_post_at_as r c.args.index post c.args.self.now)) c.in-Signal.is c.requires.sound) in
    let new = new_name Signal c.args.index post net sound in
    on_ok_more c.insert-in-Signal.result c.insert-in-Signal.ensures.ok (λ (put : c.insert-in-Signal.new.self ≡ insert net.signals c.args.index post). rw put (post_taken post c.args.index net new Signal ∙ c.self.view_is))

pub insert-requires-in-Board-clause-fresh : goal.insert-requires-in-Board-clause-fresh
insert-requires-in-Board-clause-fresh c =
    let net = lists_of c.self.inside in
    let post = c.args.post in
    let sound = subst (λ (old : Net). IsSoundNetwork (with_post_at_as Board c.args.index post old)) (sym c.self.view_is) (subst (λ (r : PostRole). IsSoundNetwork (with_post_at_as r c.args.index post c.args.self.now)) c.in-Board.is c.requires.sound) in
    let new = new_name Board c.args.index post net sound in
    new.boards

pub returns-in-Board-clause-found : goal.returns-in-Board-clause-found
returns-in-Board-clause-found c =
    let net = lists_of c.self.inside in
    let post = c.args.post in
    let sound = subst (λ (old : Net). IsSoundNetwork (with_post_at_as Board c.args.index post old)) (sym c.self.view_is) (subst (λ (r : PostRole). IsSoundNetwork (with_post_at_as r c.args.index post c.args.self.now)) c.in-Board.is c.requires.sound) in
    let new = new_name Board c.args.index post net sound in
    on_ok_more c.insert-in-Board.result c.insert-in-Board.ensures.ok (λ (put : c.insert-in-Board.new.self ≡ insert net.boards c.args.index post). rw put (post_found post c.args.index net new Board))

pub returns-in-Board-clause-back : goal.returns-in-Board-clause-back
returns-in-Board-clause-back c =
    let net = lists_of c.self.inside in
    let post = c.args.post in
    let sound = subst (λ (old : Net). IsSoundNetwork (with_post_at_as Board c.args.index post old)) (sym c.self.view_is) (subst (λ (r : PostRole). IsSoundNetwork (with_post_at_as r c.args.index post c.args.self.now)) c.in-Board.is c.requires.sound) in
    let new = new_name Board c.args.index post net sound in
    on_ok_more c.insert-in-Board.result c.insert-in-Board.ensures.ok (λ (put : c.insert-in-Board.new.self ≡ insert net.boards c.args.index post). rw put (post_taken post c.args.index net new Board ∙ c.self.view_is))
