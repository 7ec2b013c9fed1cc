use Rattle.std.proofs.Common.{◌≡◌, ℕ, false, refl, sym, ◌∙◌, subst}
use Rattle.std.specs.Prelude.{IfSome, Option}
use Rattle.rail_rules.specs.Fronts.{Line}
use Rattle.rail_rules.specs.Lawful.{may_follow}
use Rattle.rail_laws_verdict.specs.Verdicts.{broken_law}
use Rattle.rail_laws_verdict.proofs.CallerLemmas.{refused_open}
use Rattle.rail_ledger.specs.declared.ledger.Ledger.{Ledger}
use Rattle.rail_ledger.specs.Ledgers.{IsRefused, StandsAsBefore, line_with}
use Rattle.rail_ledger.specs.declared.ledger.Listed.TheVariants as which
use Rattle.rail_ledger.proofs.Judged.{listed_as, mapped}
use Rattle.rail_ledger.proofs.ledger.Ledger.take_other.Goals as goal
use Rattle.rail_ledger.specs.declared.input.RunInput.{RunInput}
use Rattle.rail_ledger.specs.Inputs.{input_in}

-- what is refused where the ledger stands as before is refused there
refused_before : (old mid : Ledger) (line : Line) → mid.input ≡ old.input → StandsAsBefore old mid → (law : Option ℕ) → IfSome law (IsRefused mid line) → IfSome law (IsRefused old line)
refused_before old mid line input stays law refused = mapped {P = IsRefused mid line} {Q = IsRefused old line} law refused
    (λ number no front at. subst (λ (i : RunInput). (may_follow (input_in i) front line ≡ false) × (number ≡ broken_law (input_in i) front line)) input (no front (stays front at)))

-- another list that belongs to the last line leaves the fronts
unlisted : (old : Ledger) → StandsAsBefore old (record old { listed = which.Nothing })
unlisted old = λ front at. listed_as front old which.Nothing at

pub returns-in-Admission-clause-refused : goal.returns-in-Admission-clause-refused
returns-in-Admission-clause-refused c = λ front at.
    let old : Ledger = c.args.self.now in
    let input = input_in old.input in
    let line : Line = line_with c.args.entry c.args.trains.now in
    let could = c.in-Admission.ensures.admission refl front (unlisted old front at) in
    let refused = refused_open input at.rep.accepted front at.rep.lawful line could.1 (sym at.rep.ended ∙ c.if-self.false) could.0 could.2 c.requires.other in
    (refused.0, sym refused.1)

pub returns-in-Admission-clause-unchanged : goal.returns-in-Admission-clause-unchanged
returns-in-Admission-clause-unchanged c = λ _ front at. c.in-Admission.ensures.unchanged front (unlisted c.args.self.now front at)

pub take_hold-requires-clause-due : goal.take_hold-requires-clause-due
take_hold-requires-clause-due c = c.in-Hold.ensures.hold c.in-Hold.train refl

pub returns-in-Hold-clause-taken : goal.returns-in-Hold-clause-taken
returns-in-Hold-clause-taken c = λ none front at. c.take_hold.ensures.taken none front (c.in-Hold.ensures.unchanged front (unlisted c.args.self.now front at))

pub returns-in-Hold-clause-refused : goal.returns-in-Hold-clause-refused
returns-in-Hold-clause-refused c =
    let old : Ledger = c.args.self.now in
    refused_before old c.left_to_decide.new.self (line_with c.args.entry c.args.trains.now) c.in-Hold.ensures.input (λ front at. c.in-Hold.ensures.unchanged front (unlisted old front at)) c.take_hold.result c.take_hold.ensures.refused

pub returns-in-Hold-clause-unchanged : goal.returns-in-Hold-clause-unchanged
returns-in-Hold-clause-unchanged c = λ some front at. c.take_hold.ensures.unchanged some front (c.in-Hold.ensures.unchanged front (unlisted c.args.self.now front at))

pub returns-in-Nothing-clause-taken : goal.returns-in-Nothing-clause-taken
returns-in-Nothing-clause-taken c = λ none front at. c.take_next-in-Nothing.ensures.taken none front (c.in-Nothing.ensures.unchanged front (unlisted c.args.self.now front at))

pub returns-in-Nothing-clause-refused : goal.returns-in-Nothing-clause-refused
returns-in-Nothing-clause-refused c =
    let old : Ledger = c.args.self.now in
    refused_before old c.left_to_decide.new.self (line_with c.args.entry c.args.trains.now) c.in-Nothing.ensures.input (λ front at. c.in-Nothing.ensures.unchanged front (unlisted old front at)) c.take_next-in-Nothing.result c.take_next-in-Nothing.ensures.refused

pub returns-in-Nothing-clause-unchanged : goal.returns-in-Nothing-clause-unchanged
returns-in-Nothing-clause-unchanged c = λ some front at. c.take_next-in-Nothing.ensures.unchanged some front (c.in-Nothing.ensures.unchanged front (unlisted c.args.self.now front at))
