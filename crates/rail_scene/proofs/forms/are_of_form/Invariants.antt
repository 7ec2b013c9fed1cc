use Rattle.std.proofs.Common.{◌+◌, ◌<◌}
use Prim.Native.Nat.{◌^◌}
use Rattle.rail_scene.proofs.FormWalk.{IsWalked}
use Rattle.rail_scene.proofs.forms.are_of_form.Given as goal

abbrev pub invariant-loop-place : goal.invariant-loop-place
invariant-loop-place l = (l.place + (goal.iterator-loop-place).remaining l.text-iterator < 2 ^ 64) × IsWalked l.keys l.fn.table.entries l.text-iterator l.met
