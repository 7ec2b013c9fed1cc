-- A line that is due is the one that is given.
use Rattle.std.proofs.Common.{◌≡◌, ◌+◌, ℕ, [], ◌∷◌, Some, true, false, ap, sym, subst}
use Rattle.std.proofs.lemmas.Bool.{and_parts}
use Rattle.rail_base.specs.declared.history.Cause.{Cause}
use Rattle.rail_base.specs.declared.history.Entry.{Entry}
use Rattle.rail_base.specs.declared.history.What.{What}
use Rattle.rail_base.specs.declared.history.What.TheVariants.{Hold}
use Rattle.rail_laws_verdict.proofs.CallerLemmas.{one_other}
use Rattle.rail_rules.specs.Fronts.{Front, Line, is_admission, is_hold}
use Rattle.rail_rules.specs.Lawful.{is_lawful, may_follow}
use Rattle.rail_state.specs.Representation.{bare_at}
use Rattle.rail_state.specs.TrainStates.{state_of}
use Rattle.rail_state.proofs.CallerLemmas.{cause_known}
use Rattle.rail_ledger.specs.Inputs.{input_in}
use Rattle.rail_ledger.specs.DueLines.{IsDue}
use Rattle.rail_ledger.specs.Ledgers.{IsAt, IsHoldDue, TakesLine, line_in, line_with}
use Rattle.rail_ledger.specs.declared.due.Due.{Due}
use Rattle.rail_ledger.specs.declared.input.RunInput.{RunInput}
use Rattle.rail_ledger.specs.declared.ledger.Ledger.{Ledger}
use Rattle.rail_ledger.proofs.Holding.{hold_next, known_why}

-- the hold line that is due may follow
pub due_lawful : (front : Front) (ledger : Ledger) → IsAt front ledger → (t : ℕ) → IsHoldDue ledger t → (said : What)
    → ((why : Cause) → (state_of ledger.state.trains t).known ≡ Some why → said ≡ Hold t ((state_of ledger.state.trains t).place + 1) why)
    → (is_hold said ≡ true) × (is_lawful (input_in ledger.input) (bare_at ledger.state.instant said ∷ front) ≡ true)
due_lawful front ledger at t due said says =
    let known = known_why (state_of ledger.state.trains t).known (cause_known (state_of ledger.state.trains t) due.lacks) in
    let is = says known.0 known.1 in
    (ap is_hold is, subst (λ (w : What). is_lawful (input_in ledger.input) (bare_at ledger.state.instant w ∷ front) ≡ true) (sym is) (hold_next front ledger at t due known.0 known.1))

-- a line that is given and is no admission is the one that is due
pub given_due : (old new : Ledger) (due : Due) → IsDue old due → (told : Entry) → is_admission told.what ≡ false → new.input ≡ old.input
    → TakesLine old new (line_in new told) → TakesLine old new (line_with due.entry [])
given_due old new due is told other same_input takes front at =
    let input = input_in old.input in
    let line : Line = line_in new told in
    let given : Line = line_with due.entry [] in
    let stands = takes front at in
    let lawful : is_lawful input (line ∷ front) ≡ true = subst (λ (i : RunInput). is_lawful (input_in i) (line ∷ front) ≡ true) same_input stands.rep.lawful in
    let same : line ≡ given = one_other input at.rep.accepted front at.rep.lawful line given
    (and_parts (is_lawful input front) (may_follow input front line) lawful).1
    (and_parts (is_lawful input front) (may_follow input front given) (is.lawful front at)).1
    other is.other in
    subst (λ (l : Line). IsAt (l ∷ front) new) same stands
