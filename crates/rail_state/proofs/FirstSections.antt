-- Trains that are known to be blocked at the first section of their next move, where what is known of them stays; and which sections bar a move.
use Rattle.std.proofs.Common.{◌≡◌, ℕ, ◌<◌, Bool, true, false, cond, List, [], ◌∷◌, length, get_or, find, Option, Some, None, refl, sym, ap, ◌∙◌, subst, ⊎_elim}
use Rattle.std.specs.Option.{option_map}
use Rattle.std.proofs.lemmas.Bool.{cases_lt, eqb-true, false≢true}
use Rattle.std.proofs.lemmas.List.{get_or_past}
use Rattle.std.proofs.lemmas.Option.{none-some}
use Rattle.rail_base.specs.declared.history.Cause.{Cause}
use Rattle.rail_base.specs.declared.history.Cause.TheVariants.{Stopped, Closed, Blocked}
use Rattle.rail_rules.specs.Numbers.{or_else}
use Rattle.rail_rules.specs.Plant.{Plant, claimed, trains}
use Rattle.rail_orders.specs.OrderTables.{Told}
use Rattle.rail_laws_step.specs.HolderTables.{bar_holder, held_cause}
use Rattle.rail_state.specs.declared.train.TrainState.{TrainState}
use Rattle.rail_state.proofs.Barring.{barred_is}
use Rattle.rail_state.specs.TrainStates.{AreAtFirst, bar_by, is_at_first, is_blocked, is_blocked_at, state_of}

-- a train whose cause was known before, with the same next move, is blocked at the first section of it still
pub at_first_kept : (plant : Plant) (states after : List TrainState) (t : ℕ) (why : Cause) → t < trains plant → AreAtFirst plant states → (state_of states t).known ≡ Some why
    → (state_of after t).place ≡ (state_of states t).place → (state_of after t).at_first ≡ (state_of states t).at_first
    → (state_of after t).at_first ≡ true → is_blocked why ≡ true → is_at_first (Some why) (claimed plant t (state_of after t).place) ≡ true
at_first_kept plant states after t why lt at_first_section was place first is blocked = ap (λ p. is_at_first (Some why) (claimed plant t p)) place ∙ at_first_section t why lt was (sym first ∙ is) blocked

-- a taken section that bars is one of the table
taken_within : (holders : List (Option ℕ)) (t : ℕ) (own sections : List ℕ) (x : ℕ) → is_blocked_at x (held_cause holders t own sections) ≡ true → x < length holders
taken_within holders t own [] x is = absurd (false≢true is)
taken_within holders t own (y ∷ sections) x is = at (taken_within holders t own sections x) (bar_holder holders t own y) refl is
  where
    at : (is_blocked_at x (held_cause holders t own sections) ≡ true → x < length holders) → (holder : Option ℕ) → bar_holder holders t own y ≡ holder
        → is_blocked_at x (or_else (option_map (Blocked y) holder) (held_cause holders t own sections)) ≡ true → x < length holders
    at deeper None free is' = deeper is'
    at deeper (Some u) bars is' =
        let owned : get_or holders y None ≡ Some u = barred_is t y own (get_or holders y None) u bars in
        ⊎_elim
        (λ lt. lt)
        (λ past. absurd (none-some u (sym (get_or_past holders x None past) ∙ subst (λ z. get_or holders z None ≡ Some u) (eqb-true y x is') owned)))
        (cases_lt x (length holders))

-- so is a section that bars a move because it is taken
pub bar_within : (told : Told) (holders : List (Option ℕ)) (t : ℕ) (own sections : List ℕ) (x : ℕ) → is_blocked_at x (bar_by told holders t own sections) ≡ true → x < length holders
bar_within told holders t own sections x is = of (get_or told.stopped t false) (find (λ y. get_or told.closed y false) sections) is
  where
    of : (stopped : Bool) (closed : Option ℕ) → is_blocked_at x (or_else (cond stopped (Some Stopped) None) (or_else (option_map Closed closed) (held_cause holders t own sections))) ≡ true
        → x < length holders
    of true closed is' = absurd (false≢true is')
    of false (Some y) is' = absurd (false≢true is')
    of false None is' = taken_within holders t own sections x is'
