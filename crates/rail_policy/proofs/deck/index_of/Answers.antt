use Rattle.std.proofs.Common.{rules, tests, sym, ◌∙◌}
use Rattle.std.proofs.lemmas.Iterator.{YieldsList-from_slice}
use Rattle.std.proofs.lemmas.Iterator.Search.{position_from_yields_List}
use Rattle.rail_policy.specs.Seats.{is_named}
use Rattle.rail_policy.proofs.Decks.{position-map}
use Rattle.rail_policy.proofs.deck.index_of.Goals as goal

pub returns : goal.returns
returns g c =
    position_from_yields_List (λ policy. is_named c.args.name (g.P.Policy.seat policy)) _ _ c.position.result c.position.ensures.ran (YieldsList-from_slice c.args.deck.now cc)
    (λ x b q k. search (rules, tests))
    ∙ sym (position-map g.P.Policy.seat (is_named c.args.name) c.args.deck.now)
