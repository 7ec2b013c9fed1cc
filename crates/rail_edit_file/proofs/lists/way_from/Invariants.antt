use Rattle.std.proofs.Common.{◌≡◌, ◌++◌, length, option_map}
use Rattle.rail_text.specs.Lines.{words}
use Rattle.rail_edit_file.specs.declared.lists.Way.{Way}
use Rattle.rail_edit_file.specs.EditLines.{way_from}
use Rattle.rail_edit_file.proofs.lists.way_from.Given as goal

abbrev pub invariant-loop-word : goal.invariant-loop-word
invariant-loop-word l = option_map (λ (way : Way). record way { steps = l.steps.items ++ way.steps }) (way_from l.from (words l.left)) ≡ way_from l.fn.start (words l.args)

abbrev pub decreases-loop-word : goal.decreases-loop-word
decreases-loop-word l = length l.left
