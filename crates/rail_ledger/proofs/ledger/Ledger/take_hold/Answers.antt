use Rattle.std.proofs.Common.{◌≡◌, ◌∷◌, true, sym, ap, ◌∙◌, subst, arith}
use Rattle.std.proofs.lemmas.Bool.{and_parts, false≢true}
use Rattle.rail_laws_verdict.proofs.CallerLemmas.{one_other, refused_held}
use Rattle.rail_rules.specs.Fronts.{Line}
use Rattle.rail_rules.specs.Lawful.{is_lawful, may_follow}
use Rattle.rail_state.specs.Representation.{bare_at}
use Rattle.rail_ledger.specs.Inputs.{input_in}
use Rattle.rail_ledger.specs.Ledgers.{IsAt, line_in, line_with, listed_in}
use Rattle.rail_ledger.specs.declared.input.RunInput.{RunInput}
use Rattle.rail_ledger.specs.declared.ledger.Ledger.{Ledger}
use Rattle.rail_ledger.specs.declared.ledger.Listed.{Listed}
use Rattle.rail_ledger.proofs.DueNow.{due_lawful}
use Rattle.rail_ledger.proofs.Judged.{hold_none}
use Rattle.rail_ledger.proofs.Room.{place_fits}
use Rattle.rail_ledger.proofs.ledger.Ledger.take_hold.Goals as goal

pub hold_line-requires-clause-place : goal.hold_line-requires-clause-place
hold_line-requires-clause-place c = omega (
  arith,
  place_fits c.requires.running.front c.args.self.now c.requires.running.at c.args.train (omega (arith, c.requires.due.train, c.requires.running.at.rep.times.many)),
)

pub returns-then-not-is_line-clause-refused : goal.returns-then-not-is_line-clause-refused
returns-then-not-is_line-clause-refused c = λ front at.
    let old : Ledger = c.args.self.now in
    let line : Line = line_with c.args.entry c.args.trains.now in
    let given : Line = bare_at old.state.instant c.hold_line.result in
    let due = due_lawful front old at c.args.train c.requires.due c.hold_line.result c.hold_line.ensures in
    let refused = refused_held (input_in old.input) at.rep.accepted front at.rep.lawful given due.1 (hold_none c.hold_line.result due.0) line c.requires.other due.0
    (λ same. false≢true (sym c.if-not-is_line.true ∙ c.is_line.ensures.1 same)) in
    (refused.0, sym refused.1)

pub returns-clause-taken : goal.returns-clause-taken
returns-clause-taken c = λ _ front at.
    let old : Ledger = c.args.self.now in
    let new : Ledger = c.hold_train.new.self in
    let input = input_in old.input in
    let line : Line = line_with c.args.entry c.args.trains.now in
    let given : Line = bare_at old.state.instant c.hold_line.result in
    let told : Line = line_in new c.hold_train.result in
    let due = due_lawful front old at c.args.train c.requires.due c.hold_line.result c.hold_line.ensures in
    let stands = c.hold_train.ensures.line front at in
    let lawful : is_lawful input (told ∷ front) ≡ true = subst (λ (i : RunInput). is_lawful (input_in i) (told ∷ front) ≡ true) c.hold_train.ensures.input stands.rep.lawful in
    let same : told ≡ given = one_other input at.rep.accepted front at.rep.lawful told given
    (and_parts (is_lawful input front) (may_follow input front told) lawful).1
    (and_parts (is_lawful input front) (may_follow input front given) due.1).1
    (hold_none c.hold_train.result.what c.hold_train.ensures.kind.0) (hold_none c.hold_line.result due.0) in
    subst (λ (l : Line). IsAt (l ∷ front) new) (same ∙ c.is_line.ensures.0 c.if-not-is_line.false) stands

pub returns-clause-listed : goal.returns-clause-listed
returns-clause-listed c = λ _.
    let new : Ledger = c.hold_train.new.self in
    ap (λ (l : Listed). listed_in l new.kept.trains new.remaining.items) c.hold_train.ensures.kind.1
    ∙ ap (λ (l : Line). l.trains) (c.is_line.ensures.0 c.if-not-is_line.false)
