use Rattle.std.proofs.Common.{◌+◌, ◌*◌, ◌/◌, get_or, arith, rules, w64}
use Rattle.std.specs.Prelude.{bit_and}
use Rattle.std.specs.Int.{bit_not, trailing_zeros}
use Rattle.rail_sets.proofs.Words.{has_within, beyond_at, none_beyond}
use Rattle.rail_sets.proofs.sets.meet_beyond.Goals as goal

pub returns-then-word-second-ne0-clause-some : goal.returns-then-word-second-ne0-clause-some
returns-then-word-second-ne0-clause-some c =
    let a = c.args.first.now in
    let b = c.args.second.now in
    let d = c.args.third.now in
    let k = c.loop-index.index in
    let found = beyond_at a b d k (search rules) (search rules) c.if-word-second-ne0.true in
    λ _. (k * 64 + trailing_zeros w64 (bit_and (bit_and (get_or a k 0) (get_or b k 0)) (bit_not w64 (get_or d k 0))), found.0, found.1, found.2)

pub returns-clause-none : goal.returns-clause-none
returns-clause-none c = λ _ x one two. none_beyond c.args.first.now c.args.second.now c.args.third.now x (search rules) (c.loop-index.invariant (x / 64) (omega (arith, has_within c.args.first.now x one))) one two
