use Rattle.std.proofs.Common.{◌≡◌, ◌<◌, ◌-◌, ◌+◌, suc, true, false, length, is_some, sym, ap, ◌∙◌, arith}
use Rattle.rail_plan.specs.PlanFaults.{bare, fault_over, first_answer}
use Rattle.rail_plan.proofs.Firsts.{first_found, first_more}
use Rattle.rail_plan.proofs.faults.first_fault.Goals as goal

pub returns-then-is_some : goal.returns-then-is_some
returns-then-is_some c =
    let moves = c.args.moves.now in
    let f = fault_over (bare c.args.tables.now) c.args.train c.args.metres moves in
    let i = c.loop-place.place - 1 in
    let some : is_some (f i) ≡ true = ap is_some (sym c.place_fault-fault.ensures) ∙ sym c.is_some.ensures ∙ c.if-is_some.true in
    let within : i < length moves - 1 = omega arith in
    c.place_fault-fault.ensures ∙ sym (first_found f (length moves - 1) i within c.loop-place.invariant some)

pub loop-place-preserved : goal.loop-place-preserved
loop-place-preserved c =
    let f = fault_over (bare c.args.tables.now) c.args.train c.args.metres c.args.moves.now in
    let i = c.loop-place.place - 1 in
    let no : is_some (f i) ≡ false = ap is_some (sym c.place_fault-fault.ensures) ∙ sym c.is_some.ensures ∙ c.if-is_some.false in
    let next : c.loop-place.place + 1 - 1 ≡ suc i = omega arith in
    ap (first_answer f) next ∙ first_more f i c.loop-place.invariant no
