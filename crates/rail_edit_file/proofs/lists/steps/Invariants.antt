use Rattle.std.proofs.Common.{◌≡◌, ◌++◌, length, option_map}
use Rattle.rail_text.specs.Lines.{words}
use Rattle.rail_edit_file.specs.EditLines.{steps_from}
use Rattle.rail_edit_file.proofs.lists.steps.Given as goal

abbrev pub invariant-loop-word : goal.invariant-loop-word
invariant-loop-word l = option_map (λ rest. l.steps.items ++ rest) (steps_from l.from (words l.left)) ≡ steps_from l.fn.start (words l.args)

abbrev pub decreases-loop-word : goal.decreases-loop-word
decreases-loop-word l = length l.left
