-- Lines that continue a run.
use Rattle.std.proofs.Common.{◌≡◌, ℕ, suc, Bool, true, false, List, [], ◌∷◌, Option, Some, None, refl, sym, ap, ◌∙◌, subst}
use Rattle.std.specs.Prelude.{IfSome}
use Rattle.std.proofs.lemmas.Bool.{and_parts, false≢true}
use Rattle.rail_base.specs.declared.history.Entry.{Entry}
use Rattle.rail_base.specs.declared.history.What.{What}
use Rattle.rail_base.specs.declared.history.What.TheVariants.{Free, Arrive, Enter, Out, Ready, Told, Untold, Admit, Hold, End}
use Rattle.rail_base.specs.declared.orders.Command.{Command}
use Rattle.rail_base.specs.declared.orders.Order.{Order}
use Rattle.rail_policy.specs.declared.offer.Offer.{Offer}
use Rattle.rail_policy.specs.Desks.{Table, after_note, seat_in_force}
use Rattle.rail_rules.specs.Causes.{is_deciding}
use Rattle.rail_rules.specs.Fronts.{Front, is_admission, is_hold}
use Rattle.rail_rules.specs.Lawful.{is_lawful, may_follow}
use Rattle.rail_rules.specs.Orders.{orders_of}
use Rattle.rail_rules.specs.RunHistories.{Seat, is_run}
use Rattle.rail_laws_step.proofs.CallerLemmas.{run_idle}
use Rattle.rail_state.specs.Representation.{AreAllKnown}
use Rattle.rail_state.specs.TrainStates.{state_of}
use Rattle.rail_ledger.specs.declared.input.RunInput.{RunInput}
use Rattle.rail_ledger.specs.declared.ledger.Ledger.{Ledger}
use Rattle.rail_ledger.specs.declared.ledger.Listed.TheVariants as listed
use Rattle.rail_ledger.specs.Inputs.{input_in}
use Rattle.rail_ledger.specs.Ledgers.{ContinuesRun, GivesEntry, IsAdmissionOf, IsAt, IsOther, line_in}
use Rattle.rail_ledger.proofs.CallerLemmas.{hold_none}
use Rattle.rail_engine.specs.Desks.{IsDesk, after_orders}
use Rattle.rail_engine.specs.Engines.{ContinuesRuns, IsOfRun, StandsFor, StaysDesk}
use Rattle.rail_engine.specs.Rounds.{AreOffers, IsPicked}
use Rattle.rail_engine.proofs.Choosing.{picked_chosen}
use Rattle.rail_engine.proofs.Desks.{line_desk, noted_desk}

-- a line that is no admission continues a run, and the desk is told what it tells
run_on : (seats : List Seat) (front : Front) (new : Ledger) (entry : Entry) (table : Table) → IsAt (line_in new entry ∷ front) new → is_admission entry.what ≡ false
    → IsOfRun seats new.input front table → IsOfRun seats new.input (line_in new entry ∷ front) (after_orders (orders_of new.input.commands.items entry.what) table)
run_on seats front new entry table at idle run = record {
  of_run = run_idle (input_in new.input) seats (line_in new entry) front run.of_run
      (and_parts (is_lawful (input_in new.input) front) (may_follow (input_in new.input) front (line_in new entry)) at.rep.lawful).1 idle;
  desk = line_desk (input_in new.input) seats front (line_in new entry) idle table at.rep.lawful run.desk;
}

-- an event line or the end line
pub gone_on : (old new : Ledger) (entry : Entry) (commands : List Command) (before after : Table) → new.input ≡ old.input → GivesEntry old new entry → IsOther entry
    → commands ≡ new.input.commands.items → after ≡ after_orders (orders_of commands entry.what) before → ContinuesRuns old new before after entry
gone_on old new entry commands before after same line other commands_are after_is = λ seats front at run.
    subst (IsOfRun seats new.input (line_in new entry ∷ front)) (ap (λ list. after_orders (orders_of list entry.what) before) (sym commands_are) ∙ sym after_is)
    (run_on seats front new entry before (line front at) other.0 (subst (λ (input : RunInput). IsOfRun seats input front before) (sym same) run))

-- a hold line tells nothing
pub hold_tells : (commands : List Command) (what : What) → is_hold what ≡ true → orders_of commands what ≡ []
hold_tells commands (Hold t m why) is = refl
hold_tells commands (Admit t m note) is = absurd (false≢true is)
hold_tells commands (Free x t) is = absurd (false≢true is)
hold_tells commands (Arrive t m) is = absurd (false≢true is)
hold_tells commands (Enter t m x) is = absurd (false≢true is)
hold_tells commands (Out t) is = absurd (false≢true is)
hold_tells commands (Ready t m) is = absurd (false≢true is)
hold_tells commands (Told k) is = absurd (false≢true is)
hold_tells commands (Untold k) is = absurd (false≢true is)
hold_tells commands End is = absurd (false≢true is)

-- a line that a later ledger gives
pub held_lines : (first old new : Ledger) → ((front : Front) → IsAt front first → IsAt front old) → (entry : Option Entry) → IfSome entry (GivesEntry old new) → IfSome entry (GivesEntry first new)
held_lines first old new stands None line = tt
held_lines first old new stands (Some entry) line = λ front at. line front (stands front at)

-- a hold line that a later ledger gives
pub held_on : (first old new : Ledger) (before after : Table) → old.input ≡ first.input → new.input ≡ old.input → ((front : Front) → IsAt front first → IsAt front old)
    → StaysDesk first before after → (entry : Option Entry) → IfSome entry (GivesEntry old new) → IfSome entry (λ e. (is_hold e.what ≡ true) × (new.listed ≡ listed.Nothing)) → IfSome entry (ContinuesRuns first new before after)
held_on first old new before after same then_same stands stays None line kind = tt
held_on first old new before after same then_same stands stays (Some entry) line kind = λ seats front at run.
    let now : IsOfRun seats new.input front after = subst (λ (input : RunInput). IsOfRun seats input front after) (sym (then_same ∙ same))
    (record { of_run = run.of_run; desk = stays seats front at run.desk }) in
    subst (λ (orders : List Order). IsOfRun seats new.input (line_in new entry ∷ front) (after_orders orders after)) (hold_tells new.input.commands.items entry.what kind.0)
    (run_on seats front new entry after (line front (stands front at)) (hold_none entry.what kind.0) now)

-- behind a hold line the cause of each train that waits is known
pub held_known : (front : Front) (old new : Ledger) (is_over : Bool) → IsAt front old → (entry : Option Entry) → IfSome entry (GivesEntry old new)
    → IfSome entry (λ e. (is_hold e.what ≡ true) × (new.listed ≡ listed.Nothing)) → IfSome entry (λ e. is_over ≡ true → AreAllKnown new.input.plant new.state.trains)
held_known front old new is_over at None line kind = tt
held_known front old new is_over at (Some entry) line kind = λ _. (line front at).rep.known.no_more kind.0

-- the admission of the train that was picked
pub admitted_on : (first old new : Ledger) (before asked_of asked noted : Table) (offers rest : List Offer) (t : ℕ) (entry : Entry) → old.input ≡ first.input → new.input ≡ old.input
    → ((front : Front) → IsAt front first → IsAt front old) → ((front : Front) → IsAt front old → is_deciding (input_in old.input) front ≡ true) → StaysDesk first before asked_of
    → AreOffers old offers → IsPicked (seat_in_force asked_of).kind (seat_in_force asked_of).mark offers rest t → StaysDesk old asked_of asked → noted ≡ after_note asked t
    → ContinuesRun old new t entry → IsAdmissionOf t (state_of old.state.trains t).place entry → ContinuesRuns first new before noted entry
admitted_on first old new before asked_of asked noted offers rest t entry same then_same stands deciding stays are picked turns note continues admission = λ seats front at run.
    let at_now : IsAt front old = stands front at in
    let desk_now : IsDesk (input_in old.input) seats front asked_of = subst (λ (input : RunInput). IsDesk (input_in input) seats front asked_of) (sym same) (stays seats front at run.desk) in
    let run_now : is_run (input_in old.input) seats front ≡ true = subst (λ (input : RunInput). is_run (input_in input) seats front ≡ true) (sym same) run.of_run in
    subst (λ (input : RunInput). IsOfRun seats input (line_in new entry ∷ front) noted) (sym then_same) (record {
      of_run = continues front seats at_now run_now (picked_chosen front old at_now seats asked_of desk_now (deciding front at_now) offers rest t are picked);
      desk = noted_desk (input_in old.input) seats front (line_in new entry) t (suc (state_of old.state.trains t).place) admission.note admission.what asked noted note (turns seats front at_now desk_now);
    })

-- a line behind a round in which nothing was decided
pub gone_after : (first mid old new : Ledger) (before asked after : Table) (entry : Entry) → mid.input ≡ first.input → old.input ≡ mid.input → ((front : Front) → IsAt front first → IsAt front mid)
    → ((front : Front) → IsAt front mid → IsAt front old) → StaysDesk mid before asked → ContinuesRuns old new asked after entry → ContinuesRuns first new before after entry
gone_after first mid old new before asked after entry same then_same stands then_stands stays continues = λ seats front at run.
    let at_mid : IsAt front mid = stands front at in
    let run_mid : IsOfRun seats mid.input front before = subst (λ (input : RunInput). IsOfRun seats input front before) (sym same) run in
    let run_asked : IsOfRun seats mid.input front asked = record { of_run = run_mid.of_run; desk = stays seats front at_mid run_mid.desk } in
    continues seats front (then_stands front at_mid) (subst (λ (input : RunInput). IsOfRun seats input front asked) (sym then_same) run_asked)

-- a step keeps what the engine stands for
pub stepped : (seen old new : Ledger) (before after : Table) → old ≡ seen → (entry : Option Entry) → IfSome entry (GivesEntry old new) → IfSome entry (ContinuesRuns old new before after)
    → IfSome entry (λ e. (seats : List Seat) (front : Front) → StandsFor seats front seen before → StandsFor seats (line_in new e ∷ front) new after)
stepped seen old new before after same None line run = tt
stepped seen old new before after same (Some entry) line run = λ seats front stands.
    let from : StandsFor seats front old before = subst (λ (ledger : Ledger). StandsFor seats front ledger before) (sym same) stands in
    record {
      at = line front from.at;
      run = run seats front from.at from.run;
      list = refl;
    }
