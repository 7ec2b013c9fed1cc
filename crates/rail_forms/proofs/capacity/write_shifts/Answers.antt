use Rattle.std.proofs.Common.{sym, subst, List, ℕ, arith, Ok}
use Rattle.rail_forms.specs.Capacity.{shift_line}
use Rattle.rail_text.specs.Names.{names_in}
use Rattle.rail_text.specs.Writes.{WritesText}
use Rattle.rail_forms.proofs.CapacityTexts.{texts_more, texts_whole}
use Rattle.rail_text.proofs.CallerLemmas.{both_written, part_written}
use Rattle.rail_forms.proofs.capacity.write_shifts.Goals as goal

pub returns-in_err-write_shift : goal.returns-in_err-write_shift
returns-in_err-write_shift g c =
    let line = shift_line (names_in c.args.names.now) in
    let Written : List ℕ → Type 0 = λ text. WritesText g.O.Sink c.args.out.now c.write_shift.new.out text c.from_residual.result in
    let here = both_written g.O.Sink _ _ _ _ _ _ c.loop-shift.invariant c.in_err-write_shift.ensures in
    subst Written (sym (texts_whole line c.args.shifts.now c.loop-shift.shift-index c.shift-item.result (omega arith) c.shift-item.is))
    (part_written g.O.Sink _ _ _ _ _ c.from_residual.result c.from_residual.ensures.0 here)

pub loop-shift-preserved : goal.loop-shift-preserved
loop-shift-preserved g c =
    subst (λ (text : List ℕ). WritesText g.O.Sink c.args.out.now c.write_shift.new.out text (Ok tt))
    (sym (texts_more (shift_line (names_in c.args.names.now)) c.args.shifts.now c.loop-shift.shift-index c.shift-item.result (omega arith) c.shift-item.is))
    (both_written g.O.Sink _ _ _ _ _ _ c.loop-shift.invariant c.in_ok-write_shift.ensures)
