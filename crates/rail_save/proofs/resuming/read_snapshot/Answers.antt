use Rattle.std.proofs.Common.{arith, subst}
use Rattle.rail_history.specs.HistoryLines.{IsRefusedFor}
use Rattle.rail_history.proofs.CallerLemmas.{length-lines_in, wrong_within}
use Rattle.rail_text.specs.Names.{HasNames}
use Rattle.rail_history.specs.LineReads.{lists_of}
use Rattle.rail_save.proofs.resuming.read_snapshot.Goals as goal

pub overflow_add-refusal : goal.overflow_add-refusal
overflow_add-refusal c =
    let names : HasNames c.args.plant.now c.names.result.now = record { sections = c.names.ensures.sections; trains = c.names.ensures.trains } in
    let refused = subst (IsRefusedFor c.names.result.now c.in-Some.text.now) c.in-Err-Refused.field-0-is c.in-Err-Refused.ensures.refused in
    let wrong = refused.1 c.args.plant.now names c.requires.named in
    omega (arith, wrong_within c.args.plant.now c.in-Some.text.now c.in-Err-Refused.refusal.item wrong, c.in-Some.ensures.cases.2, c.requires.short)

pub returns-in-Ok-clause-short : goal.returns-in-Ok-clause-short
returns-in-Ok-clause-short c =
    omega (arith, length-lines_in c.in-Ok.history.entries.items (lists_of c.in-Ok.history), c.in-Ok.ensures.short, c.in-Some.ensures.cases.2, c.requires.short)
