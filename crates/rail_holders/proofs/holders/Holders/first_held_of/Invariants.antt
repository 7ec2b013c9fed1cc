use Rattle.std.proofs.Common.{◌≡◌, drop}
use Rattle.rail_holders.specs.FirstHeld.{first_held}
use Rattle.rail_holders.proofs.holders.Holders.first_held_of.Given as goal

abbrev pub invariant-loop-section : goal.invariant-loop-section
invariant-loop-section l = first_held l.self (drop l.section-index l.sections) ≡ first_held l.self l.sections
