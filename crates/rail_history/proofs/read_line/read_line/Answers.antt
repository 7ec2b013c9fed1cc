use Rattle.std.proofs.Common.{sym, subst}
use Rattle.rail_rules.specs.Fronts.{Line}
use Rattle.rail_history.specs.HistoryLines.{IsSpelled}
use Rattle.rail_history.proofs.LineRead.{found_none, found_some, front_is}
use Rattle.rail_history.proofs.read_line.read_line.Goals as goal

pub returns-in_default-2-clause-none : goal.returns-in_default-2-clause-none
returns-in_default-2-clause-none c = λ plant has named line is.
    found_none line c.in_ok-line.field-0 c.in_default-2.is (c.in_ok-line.ensures plant has named line is.is_line (front_is plant line c.args.bytes.now is))

pub returns-else-branch-clause-none : goal.returns-else-branch-clause-none
returns-else-branch-clause-none c = λ plant has named line is.
    let same = found_some line c.in_ok-line.field-0 c.in-Some.line c.in-Some.is (c.in_ok-line.ensures plant has named line is.is_line (front_is plant line c.args.bytes.now is)) in
    let yes = (c.in_ok-is_line.ensures plant has).1 (subst (λ (l : Line). IsSpelled plant l c.args.bytes.now) (sym same) is) in
    cc (yes, c.if-branch.false)
