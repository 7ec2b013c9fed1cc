use Rattle.std.proofs.Common.{◌≡◌, ℕ, ◌<◌, length, get_or, set, None, inr, List, ◌++◌, take, drop, ap, sym, subst, ◌∙◌, arith}
use Rattle.std.proofs.lemmas.List.{length-set}
use Rattle.rail_state.specs.declared.train.TrainState.{TrainState}
use Rattle.rail_state.specs.TrainStates.{admitted, after_taking, state_admitted, state_of}
use Rattle.rail_state.specs.TrainSearches.{AreSetsOf}
use Rattle.rail_state.proofs.ChangeableCauses.{admitted_each}
use Rattle.rail_state.proofs.Sets.{blocked_at, blocked_still, knows_each, knows_taken, train_read, written_back}
use Rattle.rail_state.proofs.trains.TrainStates.admit.Goals as goal

pub note_taking_each-requires-clause-few : goal.note_taking_each-requires-clause-few
note_taking_each-requires-clause-few c = omega (arith, ap length c.deref_mut.ensures.value, c.self.invariant.few)

pub note_taking_each-requires-clause-sets : goal.note_taking_each-requires-clause-sets
note_taking_each-requires-clause-sets c = subst (λ (rows : List TrainState). AreSetsOf rows c.self.inside.sets) (sym c.deref_mut.ensures.value) c.self.invariant.sets

pub admit-requires : goal.admit-requires
admit-requires c =
    let old = c.self.inside.rows.items in
    let mid = c.note_taking_each.new.rows in
    let i = c.from.result in
    let train_state : TrainState = c.index_mut-train_state.result.now in
    let here : i ≡ c.args.train = omega arith in
    let back : take c.self.inside.rows.len (mid ++ drop (length mid) old) ≡ mid = written_back mid old c.self.inside.rows.len (omega arith) in
    let within : i < length mid = omega (arith, c.note_taking_each.ensures.length, ap length c.deref_mut.ensures.value, ap length c.self.view_is) in
    let read : train_state ≡ state_of mid i = train_read mid i train_state within (c.index_mut-train_state.ensures.value ∙ ap (λ (rows : List TrainState). get_or rows i train_state) back) in
    let place : train_state.place ≡ (state_of c.args.self.now c.args.train).place =
    ap (λ (r : TrainState). r.place) (read ∙ c.note_taking_each.ensures.noted i) ∙ ap (λ (rows : List TrainState). (state_of rows i).place) (c.deref_mut.ensures.value ∙ c.self.view_is) ∙ ap (λ (k : ℕ). (state_of c.args.self.now k).place) here in
    omega (arith, place, c.requires.place)

-- each train notes what was taken
noted : (c : goal.After-self-2-1) (t : ℕ) → state_of c.note_taking_each.new.rows t ≡ after_taking c.args.plant.now c.args.holders.now t (state_of c.self.inside.rows.items t)
noted c t = c.note_taking_each.ensures.noted t ∙ ap (λ (rows : List TrainState). after_taking c.args.plant.now c.args.holders.now t (state_of rows t)) c.deref_mut.ensures.value

-- there are as many as before
long : (c : goal.After-self-2-1) → length c.note_taking_each.new.rows ≡ length c.self.inside.rows.items
long c = omega (arith, c.note_taking_each.ensures.length, ap length c.deref_mut.ensures.value)

-- what was written back
new_rows : (c : goal.After-self-2-1) → take c.self.inside.rows.len (c.note_taking_each.new.rows ++ drop (length c.note_taking_each.new.rows) c.self.inside.rows.items) ≡ c.note_taking_each.new.rows
new_rows c = written_back c.note_taking_each.new.rows c.self.inside.rows.items c.self.inside.rows.len (omega arith)

-- the train as it was
before : (c : goal.After-self-2-1) → c.index_mut-train_state.result.now ≡ state_of c.note_taking_each.new.rows c.from.result
before c =
    let i = c.from.result in
    let train_state : TrainState = c.index_mut-train_state.result.now in
    train_read c.note_taking_each.new.rows i train_state (omega (arith, long c, ap length c.self.view_is))
    (c.index_mut-train_state.ensures.value ∙ ap (λ (rows : List TrainState). get_or rows i train_state) (new_rows c))

pub invariant_of-self : goal.invariant_of-self
invariant_of-self c =
    let plant = c.args.plant.now in
    let holders = c.args.holders.now in
    let i = c.from.result in
    let train_state : TrainState = c.admit.new.self in
    let old = c.self.inside.rows.items in
    let mid = c.note_taking_each.new.rows in
    let here : c.args.train ≡ i = omega arith in
    let within : i < length mid = omega (arith, long c, ap length c.self.view_is) in
    let unknown : train_state.known ≡ None = ap (λ (r : TrainState). r.known) c.admit.ensures in
    rw (new_rows c) (record {
      few = omega (arith, c.self.invariant.few, long c, length-set mid i train_state);
      full = omega (arith, c.self.invariant.full, long c, length-set mid i train_state);
      sets = subst (λ (k : ℕ). AreSetsOf (set mid k train_state) c.note.new.self) here (c.note.ensures mid (omega (arith, within, here)) c.note_taking_each.ensures.sets);
      blocked = blocked_at mid c.self.inside.blocked i train_state within (inr unknown)
          (blocked_still old mid c.self.inside.blocked (knows_each (after_taking plant holders) old mid (knows_taken plant holders) (noted c)) c.self.invariant.blocked);
    })

pub returns-clause-trains : goal.returns-clause-trains
returns-clause-trains c = λ t _.
    let plant = c.args.plant.now in
    let holders = c.args.holders.now in
    let old = c.self.inside.rows.items in
    let mid = c.note_taking_each.new.rows in
    let i = c.from.result in
    let times = c.args.times in
    let arrival = c.args.arrival in
    let here : i ≡ c.args.train = omega arith in
    ap (λ (rows : List TrainState). state_of (set rows i c.admit.new.self) t) (new_rows c)
    ∙ ap (λ (r : TrainState). state_of (set mid i r) t) (c.admit.ensures ∙ ap (admitted times arrival) (before c))
    ∙ admitted_each plant holders old mid i times arrival (noted c) (omega (arith, long c, ap length c.self.view_is)) t
    ∙ ap (λ (k : ℕ). state_admitted plant holders k times arrival t (state_of old t)) here
    ∙ ap (λ (rows : List TrainState). state_admitted plant holders c.args.train times arrival t (state_of rows t)) c.self.view_is
