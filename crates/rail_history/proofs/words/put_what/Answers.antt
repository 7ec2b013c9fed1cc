use Rattle.std.proofs.Common.{◌++◌, sym, ap, ◌∙◌}
use Rattle.rail_rules.specs.Texts.{what_words, behind}
use Rattle.rail_history.specs.Lines.{bare}
use Rattle.rail_history.proofs.words.put_what.Goals as goal

pub returns-in-Free-clause-text : goal.returns-in-Free-clause-text
returns-in-Free-clause-text c = λ plant named.
    c.put_free.ensures.text plant named (bare c.args.entry.now)
    ∙ ap (λ what. c.args.line.now ++ behind (what_words plant (bare c.args.entry.now) what)) (sym c.in-Free.is)

pub returns-in-Out-clause-text : goal.returns-in-Out-clause-text
returns-in-Out-clause-text c = λ plant named.
    c.put_out.ensures.text plant named (bare c.args.entry.now)
    ∙ ap (λ what. c.args.line.now ++ behind (what_words plant (bare c.args.entry.now) what)) (sym c.in-Out.is)
