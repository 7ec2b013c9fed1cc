use Rattle.std.proofs.Common.{ap, ◌∙◌}
use Rattle.rail_base.specs.NameForms.{is_name}
use Rattle.rail_history.proofs.Named.{train_found}
use Rattle.rail_history.proofs.read_words.train_of.Goals as goal

pub returns : goal.returns
returns c = λ plant has named n lt is. c.train_named.ensures (ap is_name is ∙ named.train_name n lt) ∙ train_found plant c.args.names.now has named n lt c.args.word.now is
