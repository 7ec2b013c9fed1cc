use Rattle.std.proofs.Common.{◌≡◌, Bool, true, false, cond, is_none, refl}
use Rattle.rail_base.specs.declared.intervals.Parts.{Parts}
use Rattle.rail_rules.specs.Intervals.{is_over, no_parts, parts_of}
use Rattle.rail_stairs.proofs.laws.an_over_line_is_of_an_overlap.Goals as goal

-- the first part is missing exactly where all are
first_part : (over : Bool) (parts : Parts) → is_none parts.setting ≡ false → is_none (cond over no_parts parts).setting ≡ over
first_part true parts some = refl
first_part false parts some = some

pub returns : goal.returns
returns c = λ plant t adms m j. first_part (is_over plant t m j) (parts_of plant t adms m j) refl
