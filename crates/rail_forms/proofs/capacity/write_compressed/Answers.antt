use Rattle.std.proofs.Common.{List, subst}
use Rattle.rail_capacity.specs.declared.shifts.Shift.{Shift}
use Rattle.rail_forms.specs.Capacity.{capacity_text}
use Rattle.rail_text.specs.Names.{names_in}
use Rattle.rail_text.specs.Writes.{WritesText}
use Rattle.rail_text.proofs.CallerLemmas.{both_written, part_written}
use Rattle.rail_forms.proofs.capacity.write_compressed.Goals as goal

pub returns-in_err-write_shifts : goal.returns-in_err-write_shifts
returns-in_err-write_shifts g c =
    let done = c.args.compressed.now in
    subst (λ (shifts : List Shift). WritesText g.O.Sink c.args.out.now c.write_shifts.new.out (capacity_text (names_in c.args.names.now) shifts done.occupancy done.rate) c.from_residual.result) c.deref.ensures.value
    (part_written g.O.Sink _ _ _ _ _ c.from_residual.result c.from_residual.ensures.0 c.in_err-write_shifts.ensures)

pub returns : goal.returns
returns g c =
    let done = c.args.compressed.now in
    subst (λ (shifts : List Shift). WritesText g.O.Sink c.args.out.now c.write_rate.new.out (capacity_text (names_in c.args.names.now) shifts done.occupancy done.rate) c.write_rate.result) c.deref.ensures.value
    (both_written g.O.Sink _ _ _ _ _ c.write_rate.result c.in_ok-write_shifts.ensures c.write_rate.ensures)
