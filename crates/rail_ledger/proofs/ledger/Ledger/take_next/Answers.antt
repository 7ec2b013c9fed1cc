use Rattle.std.proofs.Common.{◌≡◌, ◌∷◌, true, sym, ap, ◌∙◌, subst}
use Rattle.std.proofs.lemmas.Bool.{and_parts, false≢true}
use Rattle.rail_laws_verdict.proofs.CallerLemmas.{one_other, refused_next}
use Rattle.rail_rules.specs.Fronts.{Line}
use Rattle.rail_rules.specs.Lawful.{is_lawful, may_follow}
use Rattle.rail_ledger.specs.Inputs.{input_in}
use Rattle.rail_ledger.specs.Ledgers.{IsAt, MayGoOn, line_in, line_with}
use Rattle.rail_ledger.specs.declared.input.RunInput.{RunInput}
use Rattle.rail_ledger.specs.declared.ledger.Ledger.{Ledger}
use Rattle.rail_ledger.proofs.ledger.Ledger.take_next.Goals as goal

pub returns-then-not-is_next-clause-refused : goal.returns-then-not-is_next-clause-refused
returns-then-not-is_next-clause-refused c = λ front at.
    let old : Ledger = c.args.self.now in
    let exact = c.is_next.ensures.exact in
    let refused = refused_next (input_in old.input) at.rep.accepted front at.rep.lawful exact.0 (exact.1.lawful front at) exact.1.kind.0 (line_with c.args.entry c.args.trains.now) c.requires.other exact.1.kind.1
    (λ same. false≢true (sym c.if-not-is_next.true ∙ exact.2.1 same)) in
    (refused.0, c.law_of_other.ensures ∙ sym refused.1)

pub go_on-requires-clause-running : goal.go_on-requires-clause-running
go_on-requires-clause-running c = record { front = c.requires.running.front; at = c.is_next.ensures.unchanged c.requires.running.front c.requires.running.at }

pub go_on-requires-clause-going : goal.go_on-requires-clause-going
go_on-requires-clause-going c = ap (λ (l : Ledger). l.state.has_ended) c.is_next.ensures.kept ∙ c.requires.going

pub go_on-requires-clause-may : goal.go_on-requires-clause-may
go_on-requires-clause-may c = subst MayGoOn (sym c.is_next.ensures.kept) c.requires.may

pub go_on-requires-clause-unlisted : goal.go_on-requires-clause-unlisted
go_on-requires-clause-unlisted c = ap (λ (l : Ledger). l.listed) c.is_next.ensures.kept ∙ c.requires.unlisted

pub returns-clause-taken : goal.returns-clause-taken
returns-clause-taken c = λ _ front at.
    let old : Ledger = c.args.self.now in
    let new : Ledger = c.go_on.new.self in
    let input = input_in old.input in
    let exact = c.is_next.ensures.exact in
    let given : Line = exact.0 in
    let told : Line = line_in new c.go_on.result in
    let stands = c.go_on.ensures.line front (c.is_next.ensures.unchanged front at) in
    let lawful : is_lawful input (told ∷ front) ≡ true = subst (λ (i : RunInput). is_lawful (input_in i) (told ∷ front) ≡ true)
    (c.go_on.ensures.input ∙ ap (λ (l : Ledger). l.input) c.is_next.ensures.kept) stands.rep.lawful in
    let same : told ≡ given = one_other input at.rep.accepted front at.rep.lawful told given
    (and_parts (is_lawful input front) (may_follow input front told) lawful).1
    (and_parts (is_lawful input front) (may_follow input front given) (exact.1.lawful front at)).1
    c.go_on.ensures.kind.0 exact.1.kind.0 in
    subst (λ (l : Line). IsAt (l ∷ front) new) (same ∙ exact.2.0 c.if-not-is_next.false) stands

pub returns-clause-input : goal.returns-clause-input
returns-clause-input c = c.go_on.ensures.input ∙ ap (λ (l : Ledger). l.input) c.is_next.ensures.kept

pub returns-clause-listed : goal.returns-clause-listed
returns-clause-listed c = λ _.
    let old : Ledger = c.args.self.now in
    let new : Ledger = c.go_on.new.self in
    let input = input_in old.input in
    let front = c.requires.running.front in
    let at = c.requires.running.at in
    let exact = c.is_next.ensures.exact in
    let given : Line = exact.0 in
    let told : Line = line_in new c.go_on.result in
    let stands = c.go_on.ensures.line front (c.is_next.ensures.unchanged front at) in
    let lawful : is_lawful input (told ∷ front) ≡ true = subst (λ (i : RunInput). is_lawful (input_in i) (told ∷ front) ≡ true)
    (c.go_on.ensures.input ∙ ap (λ (l : Ledger). l.input) c.is_next.ensures.kept) stands.rep.lawful in
    let same : told ≡ given = one_other input at.rep.accepted front at.rep.lawful told given
    (and_parts (is_lawful input front) (may_follow input front told) lawful).1
    (and_parts (is_lawful input front) (may_follow input front given) (exact.1.lawful front at)).1
    c.go_on.ensures.kind.0 exact.1.kind.0 in
    ap (λ (l : Line). l.trains) (same ∙ exact.2.0 c.if-not-is_next.false)
