use Rattle.std.proofs.Common.{◌<◌, ◌^◌, ◌/◌, ◌%◌, ◌+◌, get_or, refl, arith, rules}
use Rattle.std.proofs.lemmas.Nat.{shr_le}
use Rattle.rail_queue.proofs.Marked.{first_in_rest, rest_bare, first_in_word, bare_more}
use Rattle.rail_queue.proofs.marks.Marks.first_from.Goals as goal

pub returns-then-rest-ne0-clause-some : goal.returns-then-rest-ne0-clause-some
returns-then-rest-ne0-clause-some c =
    let words = c.args.self.now.words in
    let fits : get_or words (c.args.start / 64) 0 < 2 ^ 64 = search rules in
    first_in_rest words c.args.start (get_or words (c.args.start / 64) 0 / 2 ^ (c.args.start % 64)) c.requires fits refl (omega (arith, c.if-rest-ne0.true)) (omega (arith, fits, shr_le (get_or words (c.args.start / 64) 0) (c.args.start % 64)))

pub loop-step-init : goal.loop-step-init
loop-step-init c = rest_bare c.args.self.now.words c.args.start c.requires (omega (arith, c.if-rest-ne0.false))

pub returns-then-bits-ne0-clause-some : goal.returns-then-bits-ne0-clause-some
returns-then-bits-ne0-clause-some c =
    let words = c.args.self.now.words in
    let s = c.loop-step.step in
    first_in_word words c.args.start s (get_or words ((c.args.start / 64 + s) % 16) 0) c.loop-step.auto.step (omega (arith, c.loop-step-test.true)) c.loop-step.invariant refl (omega (arith, c.if-bits-ne0.true)) (search rules)

pub loop-step-preserved : goal.loop-step-preserved
loop-step-preserved c =
    let words = c.args.self.now.words in
    let s = c.loop-step.step in
    bare_more words c.args.start s (get_or words ((c.args.start / 64 + s) % 16) 0) c.loop-step.auto.step c.loop-step.invariant refl (omega (arith, c.if-bits-ne0.false))
