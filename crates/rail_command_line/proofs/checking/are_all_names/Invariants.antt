use Rattle.std.proofs.Common.{◌≡◌, length}
use Rattle.std.specs.List.{list_all}
use Rattle.rail_base.specs.NameForms.{is_name}
use Rattle.rail_text.specs.Lines.{words}
use Rattle.rail_command_line.proofs.checking.are_all_names.Given as goal

abbrev pub invariant-loop-word : goal.invariant-loop-word
invariant-loop-word l = list_all is_name (words l.args) ≡ list_all is_name (words l.left)

abbrev pub decreases-loop-word : goal.decreases-loop-word
decreases-loop-word l = length l.left
