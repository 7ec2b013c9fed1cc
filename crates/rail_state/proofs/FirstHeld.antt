-- What bars a train among some sections, by the first of them that somebody holds.
use Rattle.std.proofs.Common.{◌≡◌, ◌≢◌, ℕ, eqb, Bool, false, not, ◌&&◌, ◌||◌, cond, List, [], ◌∷◌, get_or, is_some, Option, Some, None, refl, sym, ap, ◌∙◌}
use Rattle.std.specs.Option.{option_map}
use Rattle.std.proofs.lemmas.Bool.{and_right, eq-eqb, ne_eqb}
use Rattle.std.proofs.lemmas.Option.{none-some, same_Some}
use Rattle.rail_base.specs.declared.history.Cause.{Cause}
use Rattle.rail_base.specs.declared.history.Cause.TheVariants.{Blocked}
use Rattle.rail_rules.specs.Numbers.{is_in, or_else}
use Rattle.rail_laws_step.specs.HolderTables.{bar_holder, held_cause, is_train}
use Rattle.rail_holders.specs.FirstHeld.{first_held, held_or}
use Rattle.rail_state.specs.TrainStates.{is_blocked_before}

-- where nobody holds one, none bars it
pub none_held : (h : List (Option ℕ)) (t : ℕ) (own xs : List ℕ) → first_held h xs ≡ None → held_cause h t own xs ≡ None
none_held h t own [] free = refl
none_held h t own (y ∷ ys) free = at (get_or h y None) free (none_held h t own ys)
  where
    at : (o : Option ℕ) → held_or y o (first_held h ys) ≡ None → (first_held h ys ≡ None → held_cause h t own ys ≡ None) → or_else (option_map (Blocked y) (cond (is_train t o && is_in y own) None o)) (held_cause h t own ys) ≡ None
    at None free' deeper = deeper free'
    at (Some v) free' deeper = absurd (none-some (y, v) (sym free'))

-- where another train holds the first one that is held, it bars the train there
pub held_by_other : (h : List (Option ℕ)) (t : ℕ) (own xs : List ℕ) (x u : ℕ) → u ≢ t → first_held h xs ≡ Some (x, u) → held_cause h t own xs ≡ Some (Blocked x u)
held_by_other h t own [] x u other held = absurd (none-some (x, u) held)
held_by_other h t own (y ∷ ys) x u other held = at (get_or h y None) held (held_by_other h t own ys x u other)
  where
    at : (o : Option ℕ) → held_or y o (first_held h ys) ≡ Some (x, u) → (first_held h ys ≡ Some (x, u) → held_cause h t own ys ≡ Some (Blocked x u)) → or_else (option_map (Blocked y) (cond (is_train t o && is_in y own) None o)) (held_cause h t own ys) ≡ Some (Blocked x u)
    at None later deeper = deeper later
    at (Some v) here deeper =
        let same : (y, v) ≡ (x, u) = same_Some (y, v) (x, u) here in
        let not_own : eqb v t ≡ false = ne_eqb v t (λ e. other (sym (ap (λ p. p.1) same) ∙ e)) in
        ap (λ b. or_else (option_map (Blocked y) (cond (b && is_in y own) None (Some v))) (held_cause h t own ys)) not_own
        ∙ ap (λ p. Some (Blocked p.0 p.1)) same

-- no train is barred before the first one that is held
pub none_before_first : (h : List (Option ℕ)) (t : ℕ) (own xs : List ℕ) (x u : ℕ) → first_held h xs ≡ Some (x, u) → is_blocked_before h t own x xs ≡ false
none_before_first h t own [] x u held = refl
none_before_first h t own (y ∷ ys) x u held = at (get_or h y None) held (none_before_first h t own ys x u)
  where
    at : (o : Option ℕ) → held_or y o (first_held h ys) ≡ Some (x, u) → (first_held h ys ≡ Some (x, u) → is_blocked_before h t own x ys ≡ false)
        → (not (eqb y x) && (is_some (cond (is_train t o && is_in y own) None o) || is_blocked_before h t own x ys)) ≡ false
    at None later deeper = and_right (not (eqb y x)) (is_blocked_before h t own x ys) (deeper later)
    at (Some v) here deeper =
        let same : (y, v) ≡ (x, u) = same_Some (y, v) (x, u) here in
        ap (λ b. not b && (is_some (cond (is_train t (Some v) && is_in y own) None (Some v)) || is_blocked_before h t own x ys)) (eq-eqb y x (ap (λ p. p.0) same))
