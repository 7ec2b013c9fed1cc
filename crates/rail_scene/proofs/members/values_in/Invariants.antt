use Rattle.std.proofs.Common.{◌+◌, ◌<◌}
use Prim.Native.Nat.{◌^◌}
use Rattle.toml.specs.View.{view}
use Rattle.rail_scene.proofs.MemberWalk.{IsFound}
use Rattle.rail_scene.proofs.members.values_in.Given as goal

abbrev pub invariant-loop-place : goal.invariant-loop-place
invariant-loop-place l = (l.place + (goal.iterator-loop-place).remaining l.text-iterator < 2 ^ 64) × IsFound (λ v. view v.now) l.keys l.fn.table.entries l.text-iterator l.values
