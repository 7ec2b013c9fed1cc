use Rattle.std.proofs.Common.{ℕ, ◌<◌, ◌/◌, cond, length, sym, ap, ◌∙◌, rules}
use Rattle.rail_queue.proofs.Marked.{set_here, set_there, cleared_here, cleared_there}
use Rattle.rail_queue.proofs.marks.Marks.set.Goals as goal

pub returns-then-marked-clause-here : goal.returns-then-marked-clause-here
returns-then-marked-clause-here c =
    let within : c.args.chain / 64 < length c.args.self.now.words = search rules in
    λ _. set_here c.args.self.now.words c.args.chain within ∙ sym (ap (λ marked. cond {A = ℕ} marked 1 0) c.if-marked.true)

pub returns-then-marked-clause-others : goal.returns-then-marked-clause-others
returns-then-marked-clause-others c = λ other ne.
    let within : c.args.chain / 64 < length c.args.self.now.words = search rules in
    set_there c.args.self.now.words c.args.chain other within ne

pub returns-else-marked-clause-here : goal.returns-else-marked-clause-here
returns-else-marked-clause-here c =
    let within : c.args.chain / 64 < length c.args.self.now.words = search rules in
    λ _. cleared_here c.args.self.now.words c.args.chain within ∙ sym (ap (λ marked. cond {A = ℕ} marked 1 0) c.if-marked.false)

pub returns-else-marked-clause-others : goal.returns-else-marked-clause-others
returns-else-marked-clause-others c = λ other ne.
    let within : c.args.chain / 64 < length c.args.self.now.words = search rules in
    cleared_there c.args.self.now.words c.args.chain other within ne
