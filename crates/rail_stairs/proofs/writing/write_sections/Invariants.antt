use Rattle.std.proofs.Common.{ℕ, List, Ok}
use Rattle.rail_base.specs.declared.intervals.Interval.{Interval}
use Rattle.rail_rules.specs.Numbers.{gather}
use Rattle.rail_stairs.specs.StairsTexts.{section_line}
use Rattle.rail_stairs.specs.Tallies.{IsTallied}
use Rattle.rail_text.specs.Writes.{WritesText}
use Rattle.rail_stairs.proofs.writing.write_sections.Given as goal

abbrev pub invariant-loop-number : goal.invariant-loop-number
invariant-loop-number g l = (ended : ℕ) (seen : List Interval) → IsTallied ended seen l.tallies
    → WritesText g.O.Sink l.initial.out l.out (gather (section_line l.plant ended seen) l.number) (Ok tt)
