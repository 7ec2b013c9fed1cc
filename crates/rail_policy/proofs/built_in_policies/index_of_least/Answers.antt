use Rattle.std.proofs.Common.{arith, ◌≡◌, ◌<◌, ◌∙◌, sym, length}
use Rattle.rail_policy.proofs.Least.{least_changes, least_of_all, least_stays}
use Rattle.rail_policy.proofs.built_in_policies.index_of_least.Goals as goal
use Rattle.rail_policy.proofs.built_in_policies.index_of_least.Goals.{then-goes_before, else-goes_before}

pub loop-index-preserved : goal.loop-index-preserved
loop-index-preserved c =
    let offer = c.index-offers-index in
    let first = c.loop-index.first.now in
    let before = c.loop-index.invariant in
    let lt : c.loop-index.index < length c.args.offers.now = omega arith in
    elim c.if-goes_before.branch [
      | then-goes_before w ↦ rw w.least-is (rw w.first-is (record {
        least = least_changes _ _ _ _ _ offer.result first before.least lt offer.is before.first (sym c.goes_before.ensures ∙ w.if-goes_before.true);
        first = offer.is;
      }))
      | else-goes_before w ↦ rw w.least-is (rw w.first-is (record {
        least = least_stays _ _ _ _ _ offer.result first before.least lt offer.is before.first (sym c.goes_before.ensures ∙ w.if-goes_before.false);
        first = before.first;
      }))
    ]

pub returns : goal.returns
returns c =
    let all : c.loop-index.index ≡ length c.args.offers.now = omega arith in
    least_of_all _ _ _ _ (rw all at c.loop-index.invariant.least)
