use Rattle.std.proofs.Common.{rules, tests, sym, ◌∙◌}
use Rattle.std.proofs.lemmas.Iterator.{YieldsList-from_slice}
use Rattle.std.proofs.lemmas.Iterator.Search.{any_from_yields_List}
use Rattle.rail_policy.specs.Seats.{is_named}
use Rattle.rail_policy.proofs.Decks.{list_any-map}
use Rattle.rail_policy.proofs.deck.has_name.Goals as goal

pub returns : goal.returns
returns g c =
    any_from_yields_List (λ policy. is_named c.args.name (g.P.Policy.seat policy)) _ _ c.any.result c.any.ensures.ran (YieldsList-from_slice c.args.deck.now cc)
    (λ x b q k. search (rules, tests))
    ∙ sym (list_any-map g.P.Policy.seat (is_named c.args.name) c.args.deck.now)
