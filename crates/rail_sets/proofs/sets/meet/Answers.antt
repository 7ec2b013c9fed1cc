use Rattle.std.proofs.Common.{◌/◌, arith, rules}
use Rattle.rail_sets.proofs.Words.{has_within, both_at, none_at}
use Rattle.rail_sets.proofs.sets.meet.Goals as goal

pub returns-then-word-second-ne0-clause-some : goal.returns-then-word-second-ne0-clause-some
returns-then-word-second-ne0-clause-some c =
    λ _. both_at c.args.first.now c.args.second.now c.loop-index.index (search rules) c.if-word-second-ne0.true

pub returns-clause-none : goal.returns-clause-none
returns-clause-none c = λ _ x is. none_at c.args.first.now c.args.second.now x (c.loop-index.invariant (x / 64) (omega (arith, has_within c.args.first.now x is))) is
