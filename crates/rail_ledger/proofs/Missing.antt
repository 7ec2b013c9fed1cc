-- What is left to decide where no line follows.
use Rattle.std.proofs.Common.{◌≡◌, true, false, not, ◌∷◌, [], Some, refl, sym, ap, ◌∙◌, ⊎_elim}
use Rattle.std.specs.Option.{option_map_or}
use Rattle.std.specs.Prelude.{◌==◌, ℕ}
use Rattle.std.proofs.lemmas.Bool.{and_left, cases_Bool, eq-eqb}
use Rattle.rail_rules.specs.Causes.{is_deciding, is_settled}
use Rattle.rail_rules.specs.Fronts.{Front}
use Rattle.rail_laws_verdict.specs.Verdicts.{is_undecided}
use Rattle.rail_laws_verdict.proofs.CallerLemmas.{decided_where_settled}
use Rattle.rail_laws_front.proofs.CallerLemmas.{deciding_quiet}
use Rattle.rail_queue.specs.Order.{first_time_of, is_sorted}
use Rattle.rail_state.proofs.CallerLemmas.{deciding_is, settled_front}
use Rattle.rail_state.specs.Representation.{is_due_now}
use Rattle.rail_ledger.specs.declared.ledger.Ledger.{Ledger}
use Rattle.rail_ledger.specs.Inputs.{dispatch_in, input_in}
use Rattle.rail_ledger.specs.Ledgers.{IsAt, MayGoOn}

-- nothing is left to decide where all that waits was told why
pub decided_settled : (front : Front) (ledger : Ledger) → IsAt front ledger → ledger.state.has_ended ≡ false → ledger.state.is_settled ≡ true
    → is_undecided (input_in ledger.input) front ≡ false
decided_settled front ledger at going settled =
    let input = input_in ledger.input in
    ⊎_elim
    (λ deciding. decided_where_settled input at.rep.accepted front at.rep.lawful
    (settled_front (dispatch_in ledger.input) ledger.input.plant front ledger.state at.rep (sym at.rep.ended ∙ going) settled (deciding_quiet input front deciding)))
    (λ not_deciding. and_left (is_deciding input front) (not (is_settled input front)) not_deciding)
    (cases_Bool (is_deciding input front))

-- nothing is left to decide where an event has the instant
decided_due : (front : Front) (ledger : Ledger) → IsAt front ledger → ledger.state.has_ended ≡ false → is_sorted ledger.state.queue.events ≡ true
    → first_time_of ledger.state.queue.events ≡ Some ledger.state.instant → is_undecided (input_in ledger.input) front ≡ false
decided_due [] ledger at going sorted now = refl
decided_due (line ∷ before) ledger at going sorted now =
    let input = input_in ledger.input in
    let front : Front = line ∷ before in
    let due : is_due_now ledger.state ≡ true = ap (λ o. option_map_or (λ (time : ℕ). time == ledger.state.instant) o false) now ∙ eq-eqb ledger.state.instant ledger.state.instant refl in
    and_left (is_deciding input front) (not (is_settled input front))
    (deciding_is (dispatch_in ledger.input) ledger.input.plant front ledger.state at.rep (sym at.rep.ended ∙ going) sorted line before refl ∙ ap not due)

-- nothing is left to decide where the next event may happen
pub decided_going : (front : Front) (ledger : Ledger) → IsAt front ledger → ledger.state.has_ended ≡ false → is_sorted ledger.state.queue.events ≡ true
    → MayGoOn ledger → is_undecided (input_in ledger.input) front ≡ false
decided_going front ledger at going sorted may = ⊎_elim (decided_settled front ledger at going) (decided_due front ledger at going sorted) may
