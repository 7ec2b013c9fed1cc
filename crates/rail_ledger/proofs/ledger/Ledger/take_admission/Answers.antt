use Rattle.std.proofs.Common.{◌≡◌, ℕ, ◌+◌, ◌<◌, ◌≤◌, ◌∷◌, true, false, length, None, sym, ◌∙◌, subst}
use Rattle.rail_rules.specs.Plant.{moves, trains}
use Rattle.rail_rules.specs.Fronts.{Line}
use Rattle.rail_state.specs.Events.{AreFreedOnce}
use Rattle.rail_state.specs.Representation.{IsAdmitLine, taken_over}
use Rattle.rail_ledger.specs.declared.ledger.Listed.{Listed}
use Rattle.rail_state.specs.Admissions.{IsGivable}
use Rattle.rail_state.specs.TrainStates.{AreAtFirst, state_of}
use Rattle.rail_state.proofs.CallerLemmas.{taken_once}
use Rattle.rail_ledger.specs.Inputs.{dispatch_in}
use Rattle.rail_ledger.specs.Ledgers.{HasGiven, IsAt, admission}
use Rattle.rail_ledger.proofs.Room.{room_left}
use Rattle.rail_ledger.proofs.Commands.{idle_unknown, waiting_left}
use Rattle.rail_ledger.specs.declared.ledger.Ledger.{Ledger}
use Rattle.rail_ledger.proofs.Admissions.{admissible_in_place, can_give, given_at, refused_forbidden, refused_list, refused_occupied, refused_place, waits_in_place}
use Rattle.rail_ledger.proofs.ledger.Ledger.take_admission.Goals as goal
use Rattle.rail_state.specs.declared.pushes.TheConstants.{MOVE_EVENTS}
use Rattle.rail_state.specs.declared.run_state.RunState.{RunState}

pub returns-then-not-is_in_place-clause-refused : goal.returns-then-not-is_in_place-clause-refused
returns-then-not-is_in_place-clause-refused c = λ front with_after_hold.
    let at = with_after_hold.0 in
    let after_hold = with_after_hold.1 in
    let refused = refused_place front c.args.self.now at c.requires.going c.is_in_place.ensures.sorted c.args.at c.args.train c.args.place c.args.note c.args.list.now c.args.after_hold after_hold (sym c.is_in_place.ensures.exact ∙ c.if-not-is_in_place.true) in
    (refused.0, sym refused.1)

pub is_forbidden-requires-clause-waits : goal.is_forbidden-requires-clause-waits
is_forbidden-requires-clause-waits c =
    let front = c.requires.running.front in
    let at = c.requires.running.at.0 in
    let after_hold = c.requires.running.at.1 in
    waits_in_place front c.args.self.now at c.requires.going c.is_in_place.ensures.sorted c.args.at c.args.train c.args.place c.args.note c.args.list.now c.args.after_hold after_hold (sym c.is_in_place.ensures.exact ∙ c.if-not-is_in_place.false)

pub returns-then-is_forbidden-clause-refused : goal.returns-then-is_forbidden-clause-refused
returns-then-is_forbidden-clause-refused c = λ front with_after_hold.
    let at = with_after_hold.0 in
    let after_hold = with_after_hold.1 in
    let refused = refused_forbidden front c.args.self.now at c.requires.going c.is_in_place.ensures.sorted c.args.at c.args.train c.args.place c.args.note c.args.list.now c.args.after_hold after_hold (sym c.is_in_place.ensures.exact ∙ c.if-not-is_in_place.false) (sym c.is_forbidden.ensures ∙ c.if-is_forbidden.true) in
    (refused.0, sym refused.1)

pub is_occupied-requires-clause-waits : goal.is_occupied-requires-clause-waits
is_occupied-requires-clause-waits c =
    let front = c.requires.running.front in
    let at = c.requires.running.at.0 in
    let after_hold = c.requires.running.at.1 in
    waits_in_place front c.args.self.now at c.requires.going c.is_in_place.ensures.sorted c.args.at c.args.train c.args.place c.args.note c.args.list.now c.args.after_hold after_hold (sym c.is_in_place.ensures.exact ∙ c.if-not-is_in_place.false)

pub returns-then-is_occupied-clause-refused : goal.returns-then-is_occupied-clause-refused
returns-then-is_occupied-clause-refused c = λ front with_after_hold.
    let at = with_after_hold.0 in
    let after_hold = with_after_hold.1 in
    let refused = refused_occupied front c.args.self.now at c.requires.going c.is_in_place.ensures.sorted c.args.at c.args.train c.args.place c.args.note c.args.list.now c.args.after_hold after_hold (sym c.is_in_place.ensures.exact ∙ c.if-not-is_in_place.false) (sym c.is_forbidden.ensures ∙ c.if-is_forbidden.false) (sym c.is_occupied.ensures ∙ c.if-is_occupied.true) in
    (refused.0, sym refused.1)

pub keep_given-requires-clause-next : goal.keep_given-requires-clause-next
keep_given-requires-clause-next c =
    let front = c.requires.running.front in
    let at = c.requires.running.at.0 in
    let after_hold = c.requires.running.at.1 in
    let next = admissible_in_place front c.args.self.now at c.requires.going c.is_in_place.ensures.sorted c.args.at c.args.train c.args.place c.args.note c.args.list.now c.args.after_hold
    after_hold (sym c.is_in_place.ensures.exact ∙ c.if-not-is_in_place.false) (sym c.is_forbidden.ensures ∙ c.if-is_forbidden.false) (sym c.is_occupied.ensures ∙ c.if-is_occupied.false) in
    record { front = front; at = at; deciding = next.0; admissible = next.1 }

pub returns-then-not-keep_given-clause-refused : goal.returns-then-not-keep_given-clause-refused
returns-then-not-keep_given-clause-refused c = λ front with_after_hold.
    let at = with_after_hold.0 in
    let after_hold = with_after_hold.1 in
    let refused = refused_list front c.args.self.now at c.requires.going c.is_in_place.ensures.sorted c.args.at c.args.train c.args.place c.args.note c.args.list.now c.args.after_hold
    after_hold (sym c.is_in_place.ensures.exact ∙ c.if-not-is_in_place.false) (sym c.is_forbidden.ensures ∙ c.if-is_forbidden.false) (sym c.is_occupied.ensures ∙ c.if-is_occupied.false)
    (sym (c.keep_given.ensures.exact front at) ∙ c.if-not-keep_given.true) in
    (refused.0, sym refused.1)

pub admit-requires-clause-givable : goal.admit-requires-clause-givable
admit-requires-clause-givable c =
    let front = c.requires.running.front in
    let at = c.requires.running.at.0 in
    let after_hold = c.requires.running.at.1 in
    let old : Ledger = c.args.self.now in (
      front,
      subst (λ (r : Ledger). IsGivable r.input.plant front r.state.trains r.state.instant c.args.train) (sym c.keep_given.ensures.lists)
          (can_give front old at c.requires.going c.is_in_place.ensures.sorted c.args.at c.args.train c.args.place c.args.note c.args.list.now c.args.after_hold after_hold
          (sym c.is_in_place.ensures.exact ∙ c.if-not-is_in_place.false) (sym c.is_forbidden.ensures ∙ c.if-is_forbidden.false) (sym c.is_occupied.ensures ∙ c.if-is_occupied.false)
          (sym (c.keep_given.ensures.exact front at) ∙ c.if-not-keep_given.false)),
    )

pub admit-requires-clause-room : goal.admit-requires-clause-room
admit-requires-clause-room c =
    subst (λ (r : Ledger). MOVE_EVENTS ≤ r.state.queue.spare) (sym c.keep_given.ensures.lists) (room_left c.requires.running.front c.args.self.now c.requires.running.at.0)

pub admit-requires-clause-single : goal.admit-requires-clause-single
admit-requires-clause-single c =
    let front = c.requires.running.front in
    let at = c.requires.running.at.0 in
    let after_hold = c.requires.running.at.1 in
    let old : Ledger = c.args.self.now in
    let t : ℕ = c.args.train in
    let next = admissible_in_place front old at c.requires.going c.is_in_place.ensures.sorted c.args.at t c.args.place c.args.note c.args.list.now c.args.after_hold
    after_hold (sym c.is_in_place.ensures.exact ∙ c.if-not-is_in_place.false) (sym c.is_forbidden.ensures ∙ c.if-is_forbidden.false) (sym c.is_occupied.ensures ∙ c.if-is_occupied.false) in
    subst (λ (r : Ledger). AreFreedOnce (taken_over r.input.plant r.state.holders t (state_of r.state.trains t).place) r.state.queue.events) (sym c.keep_given.ensures.lists)
    (taken_once (dispatch_in old.input) old.input.plant front old.state at.rep next.0 t next.1.known_train)

pub admit-requires-clause-moves : goal.admit-requires-clause-moves
admit-requires-clause-moves c =
    subst (λ (r : Ledger). (t : ℕ) → t < trains r.input.plant → (state_of r.state.trains t).waits ≡ true → (state_of r.state.trains t).place < moves r.input.plant t)
    (sym c.keep_given.ensures.lists) (waiting_left c.requires.running.front c.args.self.now c.requires.running.at.0)

pub admit-requires-clause-waits : goal.admit-requires-clause-waits
admit-requires-clause-waits c =
    subst (λ (r : Ledger). (t : ℕ) → (state_of r.state.trains t).waits ≡ false → (state_of r.state.trains t).known ≡ None)
    (sym c.keep_given.ensures.lists) (idle_unknown c.requires.running.front c.args.self.now c.requires.running.at.0)

pub admit-requires-clause-at_first_section : goal.admit-requires-clause-at_first_section
admit-requires-clause-at_first_section c =
    subst (λ (r : Ledger). AreAtFirst r.input.plant r.state.trains) (sym c.keep_given.ensures.lists) c.requires.running.at.0.rep.known.at_first_section

pub returns-clause-taken : goal.returns-clause-taken
returns-clause-taken c = λ _ front with_after_hold.
    let at = with_after_hold.0 in
    let after_hold = with_after_hold.1 in
    let old : Ledger = c.args.self.now in
    let mid : Ledger = c.keep_given.new.self in
    let t : ℕ = c.args.train in
    let same : mid ≡ record old { places = mid.places; kept = mid.kept; failures = mid.failures } = c.keep_given.ensures.lists in
    let givable_now = can_give front old at c.requires.going c.is_in_place.ensures.sorted c.args.at c.args.train c.args.place c.args.note c.args.list.now c.args.after_hold
    after_hold (sym c.is_in_place.ensures.exact ∙ c.if-not-is_in_place.false) (sym c.is_forbidden.ensures ∙ c.if-is_forbidden.false) (sym c.is_occupied.ensures ∙ c.if-is_occupied.false)
    (sym (c.keep_given.ensures.exact front at) ∙ c.if-not-keep_given.false) in
    let after : RunState = c.admit.new.self in
    let given = c.admit.ensures.given front (subst (λ (r : Ledger). IsGivable r.input.plant front r.state.trains r.state.instant t) (sym same) givable_now) in
    let admits = subst (λ (r : Ledger). IsAdmitLine r.input.plant front t given.0 given.1 r.state after) same given.2 in
    let room = subst (λ (r : Ledger). length after.queue.events + after.queue.spare ≡ length r.state.queue.events + r.state.queue.spare) same c.admit.ensures.room in
    let has = subst (λ (r : Ledger). HasGiven front old r t c.args.note c.args.list.now) same (c.keep_given.ensures.given (c.if-not-keep_given.false) front at) in
    let line : Line = admission c.args.at t c.args.place c.args.note c.args.list.now in
    subst (λ (r : Ledger). IsAt (line ∷ front) (record r { state = after; listed = c.list_with-self.result })) (sym same)
    (subst (λ (l : Listed). IsAt (line ∷ front) (record old { places = mid.places; kept = mid.kept; failures = mid.failures; state = after; listed = l })) (sym c.list_with-self.ensures)
    (given_at front old at c.requires.going c.is_in_place.ensures.sorted c.args.at c.args.train c.args.place c.args.note c.args.list.now c.args.after_hold after_hold
    (sym c.is_in_place.ensures.exact ∙ c.if-not-is_in_place.false) (sym c.is_forbidden.ensures ∙ c.if-is_forbidden.false) (sym c.is_occupied.ensures ∙ c.if-is_occupied.false)
    (sym (c.keep_given.ensures.exact front at) ∙ c.if-not-keep_given.false) mid.places mid.kept mid.failures after has room given.0 given.1 admits))
