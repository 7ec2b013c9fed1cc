use Rattle.std.proofs.Common.{ap, ◌∙◌}
use Rattle.rail_base.specs.NameForms.{is_name}
use Rattle.rail_history.proofs.Named.{section_found}
use Rattle.rail_history.proofs.read_words.section_of.Goals as goal

pub returns : goal.returns
returns c = λ plant has named n lt is. c.section_named.ensures (ap is_name is ∙ named.section_name n lt) ∙ section_found plant c.args.names.now has named n lt c.args.word.now is
