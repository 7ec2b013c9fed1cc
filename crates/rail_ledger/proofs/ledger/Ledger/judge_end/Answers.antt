use Rattle.std.proofs.Common.{◌≡◌, ◌+◌, ◌∷◌, true, refl, sym, ap, ◌∙◌, subst}
use Rattle.std.proofs.lemmas.Bool.{cond-false, cond-true}
use Rattle.rail_base.specs.declared.history.What.TheVariants.{Hold}
use Rattle.rail_state.specs.Representation.{bare_at}
use Rattle.rail_state.specs.TrainStates.{state_of}
use Rattle.rail_state.proofs.CallerLemmas.{cause_known}
use Rattle.rail_rules.specs.Fronts.{Line}
use Rattle.rail_rules.specs.Lawful.{is_lawful}
use Rattle.rail_laws_verdict.specs.Verdicts.{is_undecided}
use Rattle.rail_laws_verdict.proofs.CallerLemmas.{undecided_before_hold, undecided_where_one_goes}
use Rattle.rail_ledger.specs.declared.input.RunInput.{RunInput}
use Rattle.rail_ledger.specs.declared.ledger.Ledger.{Ledger}
use Rattle.rail_ledger.specs.declared.ledger.Listed.TheVariants as which
use Rattle.rail_ledger.specs.Inputs.{input_in}
use Rattle.rail_ledger.proofs.Holding.{hold_next, known_why}
use Rattle.rail_ledger.proofs.Judged.{listed_as}
use Rattle.rail_ledger.proofs.Missing.{decided_going, decided_settled}
use Rattle.rail_ledger.proofs.ledger.Ledger.judge_end.Goals as goal

pub returns-then-self-clause-ended : goal.returns-then-self-clause-ended
returns-then-self-clause-ended c = λ _ front at. sym at.rep.ended ∙ c.if-self.true

pub returns-then-may_go_on-clause-missing : goal.returns-then-may_go_on-clause-missing
returns-then-may_go_on-clause-missing c = λ front at.
    let old : Ledger = c.args.self.now in (
      sym at.rep.ended ∙ c.if-self.false,
      sym (cond-false (is_undecided (input_in old.input) front) 6 7
          (decided_going front old at c.if-self.false c.may_go_on.ensures.sorted (c.may_go_on.ensures.may c.if-may_go_on.true))),
    )

pub returns-in-Admission-clause-missing : goal.returns-in-Admission-clause-missing
returns-in-Admission-clause-missing c = λ front at.
    let old : Ledger = c.args.self.now in
    let could = c.in-Admission.ensures.admission refl front (listed_as front old which.Nothing at) in (
      sym at.rep.ended ∙ c.if-self.false,
      sym (cond-true (is_undecided (input_in old.input) front) 6 7
          (undecided_where_one_goes (input_in old.input) at.rep.accepted front at.rep.lawful could.1 could.0 could.2)),
    )

pub returns-in-Hold-clause-missing : goal.returns-in-Hold-clause-missing
returns-in-Hold-clause-missing c = λ front at.
    let old : Ledger = c.args.self.now in
    let new : Ledger = c.left_to_decide.new.self in
    let due = c.in-Hold.ensures.hold c.in-Hold.field-0 refl in
    let known = known_why (state_of new.state.trains c.in-Hold.field-0).known (cause_known (state_of new.state.trains c.in-Hold.field-0) due.lacks) in
    let given : Line = bare_at new.state.instant (Hold c.in-Hold.field-0 ((state_of new.state.trains c.in-Hold.field-0).place + 1) known.0) in
    let after : is_lawful (input_in old.input) (given ∷ front) ≡ true = subst (λ (input : RunInput). is_lawful (input_in input) (given ∷ front) ≡ true) c.in-Hold.ensures.input
    (hold_next front new (c.in-Hold.ensures.unchanged front (listed_as front old which.Nothing at)) c.in-Hold.field-0 due known.0 known.1) in (
      sym at.rep.ended ∙ c.if-self.false,
      sym (cond-true (is_undecided (input_in old.input) front) 6 7
          (undecided_before_hold (input_in old.input) at.rep.accepted front at.rep.lawful given after refl)),
    )

pub returns-in-Nothing-clause-missing : goal.returns-in-Nothing-clause-missing
returns-in-Nothing-clause-missing c = λ front at.
    let old : Ledger = c.args.self.now in
    let new : Ledger = c.left_to_decide.new.self in
    let nothing = c.in-Nothing.ensures.nothing refl in
    let decided = decided_settled front new (nothing.3 front (listed_as front old which.Nothing at)) nothing.0 nothing.1 in (
      sym at.rep.ended ∙ c.if-self.false,
      sym (cond-false (is_undecided (input_in old.input) front) 6 7 (ap (λ (input : RunInput). is_undecided (input_in input) front) (sym c.in-Nothing.ensures.input) ∙ decided)),
    )

pub returns-in-Admission-clause-unchanged : goal.returns-in-Admission-clause-unchanged
returns-in-Admission-clause-unchanged c = λ front at. c.in-Admission.ensures.unchanged front (listed_as front c.args.self.now which.Nothing at)

pub returns-in-Hold-clause-unchanged : goal.returns-in-Hold-clause-unchanged
returns-in-Hold-clause-unchanged c = λ front at. c.in-Hold.ensures.unchanged front (listed_as front c.args.self.now which.Nothing at)

pub returns-in-Nothing-clause-unchanged : goal.returns-in-Nothing-clause-unchanged
returns-in-Nothing-clause-unchanged c = λ front at. c.in-Nothing.ensures.unchanged front (listed_as front c.args.self.now which.Nothing at)
