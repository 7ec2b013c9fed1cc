use Rattle.std.proofs.Common.{◌≡◌, true, ◌++◌, map, length}
use Rattle.std.specs.List.{list_all}
use Rattle.rail_base.specs.NameForms.{is_name}
use Rattle.rail_text.specs.Lines.{words}
use Rattle.rail_command_line.specs.Lists.{knows, number_of_train}
use Rattle.rail_command_line.proofs.list.push_trains.Given as goal

abbrev pub invariant-loop-word : goal.invariant-loop-word
invariant-loop-word l = (list_all is_name (words l.left) ≡ true) × (list_all (knows l.names.trains.keys) (words l.left) ≡ true)
    × (l.list.items ++ map (number_of_train l.names.trains.keys) (words l.left) ≡ l.initial.list.items ++ map (number_of_train l.names.trains.keys) (words l.args))

abbrev pub decreases-loop-word : goal.decreases-loop-word
decreases-loop-word l = length l.left
