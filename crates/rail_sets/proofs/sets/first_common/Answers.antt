use Rattle.std.proofs.Common.{◌/◌, arith, rules}
use Rattle.rail_sets.proofs.Words.{has_within, beyond_at, none_beyond}
use Rattle.rail_sets.proofs.sets.first_common.Goals as goal

pub returns-then-common-ne0 : goal.returns-then-common-ne0
returns-then-common-ne0 c = beyond_at c.args.first.now c.args.second.now c.args.third.now c.loop-index.index (search rules) (search rules) c.if-common-ne0.true

pub returns : goal.returns
returns c = λ x one two. none_beyond c.args.first.now c.args.second.now c.args.third.now x (search rules) (c.loop-index.invariant (x / 64) (omega (arith, has_within c.args.first.now x one))) one two
