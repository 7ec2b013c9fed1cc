use Rattle.std.proofs.Common.{refl, subst, ◌<◌, ℕ}
use Rattle.rail_policy.proofs.Decks.{small_all, small_more}
use Rattle.rail_policy.proofs.deck.read_marks_of.Goals as goal

pub loop-policy-init : goal.loop-policy-init
loop-policy-init g c = refl

pub loop-policy-preserved : goal.loop-policy-preserved
loop-policy-preserved g c =
    small_more g.P.Policy.seat c.args.deck.now c.loop-policy.policy-index c.policy-item.result c.loop-policy-test.true c.policy-item.is
    (subst (λ (mark : ℕ). mark < 65536) c.mark.ensures c.mark.type_inv) c.loop-policy.invariant

pub returns : goal.returns
returns g c = small_all g.P.Policy.seat c.args.deck.now c.loop-policy.policy-index c.loop-policy-test.false c.loop-policy.invariant
