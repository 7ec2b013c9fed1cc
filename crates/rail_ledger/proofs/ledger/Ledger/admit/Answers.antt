use Rattle.std.proofs.Common.{◌≡◌, ℕ, suc, ◌+◌, ◌<◌, ◌≤◌, ◌∷◌, true, false, length, None, refl, sym, ap, ◌∙◌, subst, arith}
use Rattle.std.specs.Prelude.{IsTrue}
use Rattle.rail_base.specs.declared.history.What.{What}
use Rattle.rail_base.specs.declared.history.What.TheVariants.{Admit}
use Rattle.rail_base.specs.declared.history.Note.{Note}
use Rattle.rail_rules.specs.Fronts.{Line}
use Rattle.rail_rules.specs.Causes.{place}
use Rattle.rail_ledger.specs.Inputs.{dispatch_in, input_in}
use Rattle.rail_rules.specs.Plant.{claimed, moves, trains}
use Rattle.rail_rules.specs.RunHistories.{is_run}
use Rattle.rail_laws_step.specs.HolderTables.{held_cause, own_overlap}
use Rattle.rail_state.specs.declared.pushes.TheConstants.{MOVE_EVENTS}
use Rattle.rail_state.specs.declared.run_state.RunState.{RunState}
use Rattle.rail_state.specs.declared.train.TrainState.{TrainState}
use Rattle.rail_state.specs.TrainStates.{AreAtFirst, state_of}
use Rattle.rail_state.specs.Admissions.{IsGivable}
use Rattle.rail_state.specs.Events.{AreFreedOnce}
use Rattle.rail_state.specs.Representation.{IsAdmitLine, taken_over}
use Rattle.rail_state.proofs.CallerLemmas.{admissible, may_keep, runs, taken_once}
use Rattle.rail_ledger.specs.declared.ledger.Ledger.{Ledger}
use Rattle.rail_ledger.specs.declared.ledger.Listed.{Listed}
use Rattle.rail_ledger.specs.Ledgers.{HasList, IsAt, line_in, list_with}
use Rattle.rail_rules.specs.Orders.{told}
use Rattle.rail_ledger.proofs.Ordered.{held_free}
use Rattle.rail_ledger.proofs.Commands.{idle_unknown, waiting_left}
use Rattle.rail_ledger.proofs.Making.{admitted_at, alike_ledger, givable, listed_with}
use Rattle.rail_ledger.proofs.Room.{place_fits, room_left}
use Rattle.rail_ledger.proofs.ledger.Ledger.admit.Goals as goal

pub overflow_add-place : goal.overflow_add-place
overflow_add-place c =
    let front = c.requires.running.front in
    let at = c.requires.running.at in
    let next = c.requires.next front at in
    omega (
      arith,
      place_fits front c.args.self.now at c.args.train next.known_train,
      ap (λ (r : TrainState). r.place) (c.get.ensures ∙ ap (λ states. state_of states c.args.train) c.in_ok-note.ensures.found.0),
    )

pub admit-requires-clause-givable : goal.admit-requires-clause-givable
admit-requires-clause-givable c =
    let front = c.requires.running.front in
    let at = c.requires.running.at in
    let next = c.requires.next front at in
    let old : Ledger = c.args.self.now in
    let mid : Ledger = c.find_list.new.self in
    let still = sym at.rep.ended ∙ c.requires.going in
    let has : HasList front old mid c.args.train c.in_ok-note.note = c.in_ok-note.ensures.found.1 front at in (
      front,
      subst (λ (r : Ledger). IsGivable r.input.plant front r.state.trains r.state.instant c.args.train) (sym (alike_ledger old mid c.in_ok-note.ensures.alike c.in_ok-note.ensures.found.0))
          (givable front old at c.requires.going (c.requires.deciding front at) c.args.train
          (admissible (dispatch_in old.input) old.input.plant front old.state at.rep still
          (c.requires.deciding front at) c.args.train next c.in_ok-note.note mid.kept.trains has.noted) c.in_ok-note.note mid.kept.trains (may_keep (dispatch_in old.input) old.input.plant front old.state at.rep still (c.requires.deciding front at) c.args.train next c.in_ok-note.note mid.kept.trains has.noted)),
    )

pub admit-requires-clause-room : goal.admit-requires-clause-room
admit-requires-clause-room c =
    subst (λ (r : Ledger). MOVE_EVENTS ≤ r.state.queue.spare) (sym (alike_ledger c.args.self.now c.find_list.new.self c.in_ok-note.ensures.alike c.in_ok-note.ensures.found.0)) (room_left c.requires.running.front c.args.self.now c.requires.running.at)

pub admit-requires-clause-single : goal.admit-requires-clause-single
admit-requires-clause-single c =
    let front = c.requires.running.front in
    let at = c.requires.running.at in
    let old : Ledger = c.args.self.now in
    let t : ℕ = c.args.train in
    subst (λ (r : Ledger). AreFreedOnce (taken_over r.input.plant r.state.holders t (state_of r.state.trains t).place) r.state.queue.events) (sym (alike_ledger old c.find_list.new.self c.in_ok-note.ensures.alike c.in_ok-note.ensures.found.0))
    (taken_once (dispatch_in old.input) old.input.plant front old.state at.rep (c.requires.deciding front at) t (c.requires.next front at).known_train)

pub admit-requires-clause-free : goal.admit-requires-clause-free
admit-requires-clause-free c =
    let front = c.requires.running.front in
    let at = c.requires.running.at in
    let next = c.requires.next front at in
    let old : Ledger = c.args.self.now in
    let t : ℕ = c.args.train in
    subst (λ (r : Ledger). held_cause r.state.holders t (own_overlap r.input.plant t (state_of r.state.trains t).place) (claimed r.input.plant t (state_of r.state.trains t).place) ≡ None) (sym (alike_ledger old c.find_list.new.self c.in_ok-note.ensures.alike c.in_ok-note.ensures.found.0))
    (ap (λ p. held_cause old.state.holders t (own_overlap old.input.plant t p) (claimed old.input.plant t p)) (at.rep.times.places t next.known_train) ∙ held_free (told old.input.commands.items front) old.state.holders t (own_overlap old.input.plant t (place front t)) (claimed old.input.plant t (place front t)) next.free)

pub admit-requires-clause-moves : goal.admit-requires-clause-moves
admit-requires-clause-moves c =
    subst (λ (r : Ledger). (t : ℕ) → t < trains r.input.plant → (state_of r.state.trains t).waits ≡ true → (state_of r.state.trains t).place < moves r.input.plant t)
    (sym (alike_ledger c.args.self.now c.find_list.new.self c.in_ok-note.ensures.alike c.in_ok-note.ensures.found.0)) (waiting_left c.requires.running.front c.args.self.now c.requires.running.at)

pub admit-requires-clause-waits : goal.admit-requires-clause-waits
admit-requires-clause-waits c =
    subst (λ (r : Ledger). (t : ℕ) → (state_of r.state.trains t).waits ≡ false → (state_of r.state.trains t).known ≡ None)
    (sym (alike_ledger c.args.self.now c.find_list.new.self c.in_ok-note.ensures.alike c.in_ok-note.ensures.found.0)) (idle_unknown c.requires.running.front c.args.self.now c.requires.running.at)

pub admit-requires-clause-at_first_section : goal.admit-requires-clause-at_first_section
admit-requires-clause-at_first_section c =
    subst (λ (r : Ledger). AreAtFirst r.input.plant r.state.trains)
    (sym (alike_ledger c.args.self.now c.find_list.new.self c.in_ok-note.ensures.alike c.in_ok-note.ensures.found.0)) c.requires.running.at.rep.known.at_first_section

pub returns-clause-line : goal.returns-clause-line
returns-clause-line c = λ front at.
    let old : Ledger = c.args.self.now in
    let mid : Ledger = c.find_list.new.self in
    let after : RunState = c.admit.new.self in
    let note : Note = c.in_ok-note.note in
    let t : ℕ = c.args.train in
    let next = c.requires.next front at in
    let same : mid ≡ record old { places = mid.places; kept = mid.kept; searcher = mid.searcher; failures = mid.failures } = alike_ledger old mid c.in_ok-note.ensures.alike c.in_ok-note.ensures.found.0 in
    let has : HasList front old mid t note = c.in_ok-note.ensures.found.1 front at in
    let has_now : HasList front old (record old { places = mid.places; kept = mid.kept; searcher = mid.searcher; failures = mid.failures }) t note = record { noted = has.noted; positions = has.positions; room = has.room; counted = has.counted; told = has.told; list_room = has.list_room; searcher = has.searcher; failures = has.failures } in
    let still = sym at.rep.ended ∙ c.requires.going in
    let can_go = admissible (dispatch_in old.input) old.input.plant front old.state at.rep still (c.requires.deciding front at) t next note mid.kept.trains has.noted in
    let keeps = may_keep (dispatch_in old.input) old.input.plant front old.state at.rep still (c.requires.deciding front at) t next note mid.kept.trains has.noted in
    let can_give = givable front old at c.requires.going (c.requires.deciding front at) t can_go note mid.kept.trains keeps in
    let given = c.admit.ensures.given front (subst (λ (r : Ledger). IsGivable r.input.plant front r.state.trains r.state.instant t) (sym same) can_give) in
    let admits = subst (λ (r : Ledger). IsAdmitLine r.input.plant front t given.0 given.1 r.state after) same given.2 in
    let room = subst (λ (r : Ledger). length after.queue.events + after.queue.spare ≡ length r.state.queue.events + r.state.queue.spare) same c.admit.ensures.room in
    let number : c.get.result.now.place + 1 ≡ suc (place front t) =
    omega (arith, ap (λ (r : TrainState). r.place) (c.get.ensures ∙ ap (λ states. state_of states t) c.in_ok-note.ensures.found.0), at.rep.times.places t next.known_train) in
    let what : What = Admit t (c.get.result.now.place + 1) note in
    subst (λ (r : Ledger). IsAt (line_in (record r { state = after; listed = c.list_with-self.result }) (record { at = after.instant; what = what }) ∷ front) (record r { state = after; listed = c.list_with-self.result })) (sym same)
    (subst (λ (l : Listed). IsAt (line_in (record old { places = mid.places; kept = mid.kept; searcher = mid.searcher; failures = mid.failures; state = after; listed = l }) (record { at = after.instant; what = what }) ∷ front)
    (record old { places = mid.places; kept = mid.kept; searcher = mid.searcher; failures = mid.failures; state = after; listed = l })) (sym c.list_with-self.ensures)
    (subst (λ (line : Line). IsAt (line ∷ front) (record old { places = mid.places; kept = mid.kept; searcher = mid.searcher; failures = mid.failures; state = after; listed = list_with note }))
    (λ i. record { entry = record { at = sym admits.time i; what = Admit t (sym number i) note }; trains = sym (listed_with note mid.kept.trains old.remaining.items) i })
    (admitted_at front old at c.requires.going (c.requires.deciding front at) t can_go note mid.kept.trains keeps mid.places mid.kept mid.searcher mid.failures after has_now refl room given.0 given.1 admits)))

pub returns-clause-run : goal.returns-clause-run
returns-clause-run c = λ front seats at of_run chosen.
    let old : Ledger = c.args.self.now in
    let mid : Ledger = c.find_list.new.self in
    let after : RunState = c.admit.new.self in
    let note : Note = c.in_ok-note.note in
    let t : ℕ = c.args.train in
    let next = c.requires.next front at in
    let same : mid ≡ record old { places = mid.places; kept = mid.kept; searcher = mid.searcher; failures = mid.failures } = alike_ledger old mid c.in_ok-note.ensures.alike c.in_ok-note.ensures.found.0 in
    let has : HasList front old mid t note = c.in_ok-note.ensures.found.1 front at in
    let still = sym at.rep.ended ∙ c.requires.going in
    let can_go = admissible (dispatch_in old.input) old.input.plant front old.state at.rep still (c.requires.deciding front at) t next note mid.kept.trains has.noted in
    let keeps = may_keep (dispatch_in old.input) old.input.plant front old.state at.rep still (c.requires.deciding front at) t next note mid.kept.trains has.noted in
    let can_give = givable front old at c.requires.going (c.requires.deciding front at) t can_go note mid.kept.trains keeps in
    let given = c.admit.ensures.given front (subst (λ (r : Ledger). IsGivable r.input.plant front r.state.trains r.state.instant t) (sym same) can_give) in
    let admits = subst (λ (r : Ledger). IsAdmitLine r.input.plant front t given.0 given.1 r.state after) same given.2 in
    let number : c.get.result.now.place + 1 ≡ suc (place front t) =
    omega (arith, ap (λ (r : TrainState). r.place) (c.get.ensures ∙ ap (λ states. state_of states t) c.in_ok-note.ensures.found.0), at.rep.times.places t next.known_train) in
    let what : What = Admit t (c.get.result.now.place + 1) note in
    subst (λ (r : Ledger). IsTrue (is_run (input_in old.input) seats (line_in (record r { state = after; listed = c.list_with-self.result }) (record { at = after.instant; what = what }) ∷ front))) (sym same)
    (subst (λ (l : Listed). IsTrue (is_run (input_in old.input) seats (line_in (record old { places = mid.places; kept = mid.kept; searcher = mid.searcher; failures = mid.failures; state = after; listed = l }) (record { at = after.instant; what = what }) ∷ front))) (sym c.list_with-self.ensures)
    (subst (λ (line : Line). IsTrue (is_run (input_in old.input) seats (line ∷ front)))
    (λ i. record { entry = record { at = sym admits.time i; what = Admit t (sym number i) note }; trains = sym (listed_with note mid.kept.trains old.remaining.items) i })
    (runs (dispatch_in old.input) old.input.plant front old.state at.rep seats of_run still (c.requires.deciding front at) t next note mid.kept.trains has.noted chosen)))

pub returns-clause-entry : goal.returns-clause-entry
returns-clause-entry c = record {
  note = c.in_ok-note.note;
  what = ap (λ n. Admit c.args.train n c.in_ok-note.note) (omega (arith, ap (λ (r : TrainState). r.place) (c.get.ensures ∙ ap (λ states. state_of states c.args.train) c.in_ok-note.ensures.found.0)));
}
