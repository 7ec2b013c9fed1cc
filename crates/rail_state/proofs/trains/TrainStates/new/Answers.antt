use Rattle.std.proofs.Common.{◌≡◌, ℕ, ◌+◌, Bool, false, List, [], ◌∷◌, ◌++◌, length, add-one, ap, refl, sym, ⊎_elim, ◌∙◌, arith}
use Rattle.std.proofs.lemmas.Bool.{cases_lt, false≢true}
use Rattle.std.proofs.lemmas.List.{get_or_past}
use Rattle.rail_rules.specs.Numbers.{listed}
use Rattle.rail_state.specs.TrainStates.{is_blocked_at, is_untried, lacks_hold_line, no_state, outside, state_of}
use Rattle.rail_state.specs.TrainSearches.{is_changeable, is_waiting}
use Rattle.rail_laws_front.proofs.CallerLemmas.{get_or-listed, length-listed}
use Rattle.rail_state.specs.declared.train.TrainState.{TrainState}
use Rattle.rail_state.proofs.Sets.{no_sets}
use Rattle.rail_state.proofs.trains.TrainStates.new.Goals as goal

pub invariant_of-result : goal.invariant_of-result
invariant_of-result c =
    let n : ℕ = c.loop-number.number in
    let states : List TrainState = listed (outside c.args.plant.now) n in
    let outside_all : (test : TrainState → Bool) → test no_state ≡ false → ((t : ℕ) → test (outside c.args.plant.now t) ≡ false) → (t : ℕ) → test (state_of states t) ≡ false =
    λ test none out t.
    ⊎_elim
    (λ below. ap test (get_or-listed (outside c.args.plant.now) n t no_state below) ∙ out t)
    (λ past. ap test (get_or_past states t no_state (omega (arith, past, length-listed (outside c.args.plant.now) n))) ∙ none)
    (cases_lt t n) in
    rw c.loop-number.invariant.rows (record {
      few = omega (arith, length-listed (outside c.args.plant.now) n, c.trains-trains.ensures.table.few);
      full = omega (arith, length-listed (outside c.args.plant.now) n, c.loop-number.invariant.room, c.loop-number-test.false);
      sets = no_sets states c.none.result c.none.ensures (outside_all is_waiting refl (λ t. refl)) (outside_all is_untried refl (λ t. refl)) (outside_all lacks_hold_line refl (λ t. refl))
          (outside_all is_changeable refl (λ t. refl));
      blocked = λ t x is. absurd (false≢true (sym (outside_all (λ train_state. is_blocked_at x train_state.known) refl (λ t. refl) t) ∙ is));
    })

pub loop-number-preserved : goal.loop-number-preserved
loop-number-preserved c =
    let n : ℕ = c.loop-number.number in
    let train_state = outside c.args.plant.now in
    let rows : c.push_outside.new.states.items ≡ listed train_state (n + 1) =
    c.push_outside.ensures.trains ∙ ap (λ (rs : List TrainState). rs ++ train_state n ∷ []) c.loop-number.invariant.rows ∙ ap (listed train_state) (sym (add-one n)) in
    record { rows = rows; long = omega (arith, ap length rows, length-listed train_state (n + 1)); room = omega (arith, c.push_outside.ensures.room) }
