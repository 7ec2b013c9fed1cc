use Rattle.std.proofs.Common.{rules}
use Rattle.rail_sets.proofs.Words.{some_section}
use Rattle.rail_sets.proofs.sets.is_empty.Goals as goal

pub returns-then-word-ne0-clause-some : goal.returns-then-word-ne0-clause-some
returns-then-word-ne0-clause-some c = λ _. some_section c.args.set.now c.loop-word.word-index (search rules) c.if-word-ne0.true
