use Rattle.std.proofs.Common.{◌≡◌, ◌+◌, ℕ, subst, ◌∙◌, arith}
use Rattle.rail_engine.proofs.Offering.{AreOffersBelow, offered_exact, offered_more}
use Rattle.rail_engine.proofs.offers.fill.Goals as goal

pub loop-train-preserved : goal.loop-train-preserved
loop-train-preserved c =
    let before = c.loop-train.invariant in
    let next = c.in-Some.ensures in
    let here : c.in-Some.train + 1 ≡ c.train.inside.0 + 1 = omega (arith, c.train.view_is) in
    record {
      are = subst (λ (k : ℕ). AreOffersBelow c.args.all c.args.ledger.now k c.push_reserved.new.self.items) here
          (offered_more c.args.all c.args.ledger.now c.loop-train.from c.in-Some.train c.loop-train.offers.items c.push_reserved.new.self.items c.offer_of.result next c.offer_of.ensures c.push_reserved.ensures.items before.are);
      within = omega (arith, here, next.0);
      room = c.push_reserved.ensures.capacity ∙ before.room;
    }

pub returns-clause-all : goal.returns-clause-all
returns-clause-all c =
    offered_exact c.args.all c.args.ledger.now c.loop-train.from c.loop-train.offers.items c.loop-train.invariant.within c.in_default.ensures c.loop-train.invariant.are
