use Rattle.std.proofs.Common.{sym, ◌∙◌}
use Rattle.std.proofs.lemmas.Bool.{false≢true}
use Rattle.rail_state.specs.Representation.{AreAllKnown}
use Rattle.rail_engine.proofs.Offering.{none_offered}
use Rattle.rail_engine.proofs.offers.offer.Goals as goal
use Rattle.rail_engine.proofs.offers.offer.Goals.{then-all, else-all}

-- nobody is untried
all_known : (c : goal.After-clear) → AreAllKnown c.look-untried.new.self.input.plant c.look-untried.new.self.state.trains
all_known c = elim c.if-all.branch [
  | then-all w ↦ absurd (false≢true (sym c.if-is_some.false ∙ w.value-is ∙ w.if-all.true))
  | else-all w ↦ c.look-untried.ensures.none (sym w.is_some.ensures ∙ sym w.value-is ∙ c.if-is_some.false)
]

pub returns-else-is_some-clause-offers : goal.returns-else-is_some-clause-offers
returns-else-is_some-clause-offers c =
    none_offered c.requires.running.front c.look-untried.new.self (c.look-untried.ensures.at c.requires.running.front c.requires.running.at) (all_known c) c.clear.new.self.items c.clear.ensures.items

pub returns-else-is_some-clause-all : goal.returns-else-is_some-clause-all
returns-else-is_some-clause-all c = λ is_all. elim c.if-all.branch [
  | then-all w ↦ absurd (false≢true (sym c.if-is_some.false ∙ w.value-is ∙ w.if-all.true))
  | else-all w ↦ absurd (false≢true (sym w.if-all.false ∙ is_all))
]
