use Rattle.std.proofs.Common.{◌≡◌, ◌^◌, ◌-◌, min, take}
use Rattle.rail_text.specs.Decimals.{value_on}
use Rattle.rail_text.proofs.decimals.value_of.Given as goal

abbrev pub invariant-loop-digit : goal.invariant-loop-digit
invariant-loop-digit l = l.value ≡ min (value_on 0 (take l.digit-index l.digits)) (2 ^ 64 - 1)
