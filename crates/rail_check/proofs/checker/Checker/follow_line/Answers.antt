use Rattle.std.proofs.Common.{arith}
use Rattle.std.proofs.lemmas.Result.{err_from_is_err_and}
use Rattle.rail_check.specs.declared.checker.Checker.{Checker}
use Rattle.rail_check.proofs.Following.{decided_at, kept_up, refused_at}
use Rattle.rail_check.proofs.checker.Checker.follow_line.Goals as goal

pub returns-in_err-line-clause-refused : goal.returns-in_err-line-clause-refused
returns-in_err-line-clause-refused c =
    let p = err_from_is_err_and c.from_residual.result c.from_residual.ensures.1 in
    let passed = c.if-pass_due.ensures in
    let middle : Checker = c.pass_due.new.self in
    let refused = refused_at c.args.self.now c.args.file.now middle c.pass_due.new.file passed.followed c.names.result.now
    (record { sections = c.names.ensures.sections; trains = c.names.ensures.trains }) c.in_err-line.field-0.0
    c.in_err-line.ensures.refused in
    rw (p.1, p.2) refused

pub take-requires-clause-checking : goal.take-requires-clause-checking
take-requires-clause-checking c =
    let following = c.requires.following in
    let now = c.if-pass_due.ensures.followed following.input following.bytes following.is in
    record { front = now.checked.front; at = (now.checked.at, now.checked.after_hold_is) }

pub take-requires-clause-few : goal.take-requires-clause-few
take-requires-clause-few c =
    let following = c.requires.following in
    let now = c.if-pass_due.ensures.followed following.input following.bytes following.is in
    omega (arith, now.checked.counted, now.read.numbered, c.if-pass_due.ensures.reading.short)

pub returns-clause-followed : goal.returns-clause-followed
returns-clause-followed c =
    let now = c.if-pass_due.ensures in
    kept_up c.args.self.now c.args.file.now c.pass_due.new.self c.pass_due.new.file now.followed c.names.result.now
    (record { sections = c.names.ensures.sections; trains = c.names.ensures.trains })
    c.take.new.self c.next_line.new.self c.in_ok-line.line c.beside.result.now c.beside.ensures c.in_ok-line.ensures.read c.take.result c.take.ensures.taken

pub returns-clause-decided : goal.returns-clause-decided
returns-clause-decided c =
    let now = c.if-pass_due.ensures in
    decided_at c.args.self.now c.args.file.now c.pass_due.new.self c.pass_due.new.file now.followed c.names.result.now
    (record { sections = c.names.ensures.sections; trains = c.names.ensures.trains })
    c.next_line.new.self c.in_ok-line.line c.beside.result.now c.beside.ensures c.in_ok-line.ensures.read c.take.result c.take.ensures.refused
