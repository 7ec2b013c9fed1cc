use Rattle.std.proofs.Common.{◌≡◌, ◌++◌, true, length}
use Rattle.std.specs.List.{list_all}
use Rattle.rail_base.specs.NameForms.{is_name}
use Rattle.rail_text.specs.Lines.{words}
use Rattle.rail_text.proofs.name_words.read_names.Given as goal

abbrev pub invariant-loop-word : goal.invariant-loop-word
invariant-loop-word l = record {
  read : l.names.items ++ words l.left ≡ words l.args;
  named : list_all is_name l.names.items ≡ true;
}

abbrev pub decreases-loop-word : goal.decreases-loop-word
decreases-loop-word l = length l.left
