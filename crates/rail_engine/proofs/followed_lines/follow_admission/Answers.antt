use Rattle.std.proofs.Common.{arith}
use Rattle.rail_ledger.specs.Ledgers.{admission}
use Rattle.rail_engine.proofs.FollowedLines.{admission_followed, admission_listed, another_refused, going_refused, known_refused, none_continues, unknown_refused}
use Rattle.rail_engine.proofs.followed_lines.follow_admission.Goals as goal

pub returns-then-round-clause-refused : goal.returns-then-round-clause-refused
returns-then-round-clause-refused g c = λ _.
    known_refused c.args.ledger.now _ c.args.at c.args.train c.args.place c.args.note c.args.list.now (c.requires.over c.if-round.true)

pub returns-then-may_go_on-clause-refused : goal.returns-then-may_go_on-clause-refused
returns-then-may_go_on-clause-refused g c = λ _.
    going_refused c.args.ledger.now _ c.args.at c.args.train c.args.place c.args.note c.args.list.now c.requires.going c.may_go_on.ensures.sorted
    (c.may_go_on.ensures.may c.if-may_go_on.true)

pub returns-then-train-trains-clause-refused : goal.returns-then-train-trains-clause-refused
returns-then-train-trains-clause-refused g c = λ _.
    unknown_refused c.args.ledger.now _ c.args.at c.args.train c.args.place c.args.note c.args.list.now
    (λ front at. omega (arith, c.if-train-trains.true, c.trains.ensures.count, c.moves.ensures.trains, c.train.view_is))

pub returns-then-not-lets_go_first-clause-refused : goal.returns-then-not-lets_go_first-clause-refused
returns-then-not-lets_go_first-clause-refused g c = λ _.
    another_refused c.args.ledger.now _ c.args.at c.args.train c.args.place c.args.note c.args.list.now (c.lets_go_first.ensures.other c.if-not-lets_go_first.true)

pub returns-then-not-admit_as-clause-refused : goal.returns-then-not-admit_as-clause-refused
returns-then-not-admit_as-clause-refused g c = λ _.
    none_continues c.args.ledger.now c.lets_go_first.new.ledger _ (admission c.args.at c.args.train c.args.place c.args.note c.args.list.now)
    c.lets_go_first.ensures.alike.input c.lets_go_first.ensures.at (c.admit_as.ensures.refused c.if-not-admit_as.true)

pub returns-then-not-admit_as-clause-unchanged : goal.returns-then-not-admit_as-clause-unchanged
returns-then-not-admit_as-clause-unchanged g c = λ _ front at. c.admit_as.ensures.unchanged c.if-not-admit_as.true front (c.lets_go_first.ensures.at front at)

pub returns-clause-line : goal.returns-clause-line
returns-clause-line g c = λ _ front at. (c.admit_as.ensures.taken c.if-not-admit_as.false front (c.lets_go_first.ensures.at front at)).0

pub returns-clause-run : goal.returns-clause-run
returns-clause-run g c = λ _.
    admission_followed c.args.ledger.now c.lets_go_first.new.ledger c.admit_as.new.ledger _ _ _ c.args.at c.args.train c.args.place c.args.note c.args.list.now
    c.lets_go_first.ensures.alike.input c.admit_as.ensures.input c.lets_go_first.ensures.at (c.lets_go_first.ensures.first c.if-not-lets_go_first.false)
    c.lets_go_first.ensures.desk c.noted.ensures.table (c.admit_as.ensures.taken c.if-not-admit_as.false)

pub returns-clause-listed : goal.returns-clause-listed
returns-clause-listed g c = λ _.
    let front = c.requires.running.front in
    admission_listed front c.admit_as.new.ledger c.args.at c.args.train c.args.place c.args.note c.args.list.now
    (c.admit_as.ensures.taken c.if-not-admit_as.false front (c.lets_go_first.ensures.at front c.requires.running.at)).0
    (c.admit_as.ensures.listed c.if-not-admit_as.false)
