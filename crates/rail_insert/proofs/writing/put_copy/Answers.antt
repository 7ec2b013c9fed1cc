use Rattle.std.proofs.Common.{ℕ, ◌++◌, List, decimal, ap, ◌∙◌}
use Rattle.rail_text.specs.Names.{names_in, train_name}
use Rattle.rail_insert.proofs.Lines.{signed_word}
use Rattle.rail_insert.proofs.writing.put_copy.Goals as goal

pub returns-clause-text : goal.returns-clause-text
returns-clause-text c =
    signed_word c.args.line.now (train_name (names_in c.args.names.now) c.args.train) (decimal c.args.number) c.put_train.ensures.text c.put.ensures
    (c.put-2.ensures ∙ ap (λ (d : List ℕ). c.put.new.self ++ d) (c.as_bytes.ensures.value ∙ c.format.ensures.text))
