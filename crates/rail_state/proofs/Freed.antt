-- Causes by the table of holders, after a section is given free.
use Rattle.std.proofs.Common.{◌≡◌, ℕ, eqb, false, ◌&&◌, cond, List, [], ◌∷◌, length, get_or, set, Option, Some, None, refl, sym, ap, ◌∙◌, subst, ⊎_elim, arith}
use Rattle.std.specs.Option.{option_map}
use Rattle.std.proofs.lemmas.Bool.{cases_Bool, cases_lt, cond-true, cond-false, eqb-true, eq-eqb, false≢true}
use Rattle.std.proofs.lemmas.List.{length-set, get_or-set_same, get_or-set_other, get_or_past}
use Rattle.std.proofs.lemmas.Option.{none-some}
use Rattle.rail_base.specs.declared.history.Cause.{Cause}
use Rattle.rail_base.specs.declared.history.Cause.TheVariants.{Blocked}
use Rattle.rail_rules.specs.Numbers.{is_in, or_else}
use Rattle.rail_laws_step.specs.HolderTables.{bar_holder, held_cause, is_train}
use Rattle.rail_state.specs.TrainStates.{is_blocked_at}

freed_self : (h : List (Option ℕ)) (x : ℕ) → get_or (set h x None) x None ≡ None
freed_self h x =
    ⊎_elim
    (λ lt. get_or-set_same h x None None lt)
    (λ past. get_or_past (set h x None) x None (omega (arith, past, length-set h x None)))
    (cases_lt x (length h))

-- whose holder barred nobody bars nobody, and the holders of other sections stay
bar_freed : (h : List (Option ℕ)) (x t : ℕ) (own : List ℕ) (y : ℕ) → bar_holder h t own y ≡ None → bar_holder (set h x None) t own y ≡ None
bar_freed h x t own y free =
    let bars : Option ℕ → Option ℕ = λ o. cond (is_train t o && is_in y own) None o in
    ⊎_elim
    (λ here. ap bars (subst (λ z. get_or (set h x None) z None ≡ None) (eqb-true x y here) (freed_self h x)))
    (λ other. ap bars (get_or-set_other h x y None None (λ e. false≢true (sym other ∙ eq-eqb x y (sym e)))) ∙ free)
    (cases_Bool (eqb x y))

-- a cause that isn't the freed section stays
pub cause_unfreed : (h : List (Option ℕ)) (x t : ℕ) (own xs : List ℕ) (c : Option Cause) (why : Cause) → or_else (held_cause h t own xs) c ≡ Some why → is_blocked_at x (Some why) ≡ false → or_else (held_cause (set h x None) t own xs) c ≡ Some why
cause_unfreed h x t own [] c why is other = is
cause_unfreed h x t own (y ∷ ys) c why is other = at (λ later. cause_unfreed h x t own ys c why later other) (bar_holder h t own y) refl is
  where
    at : (or_else (held_cause h t own ys) c ≡ Some why → or_else (held_cause (set h x None) t own ys) c ≡ Some why) → (holder : Option ℕ) → bar_holder h t own y ≡ holder
        → or_else (or_else (option_map (Blocked y) holder) (held_cause h t own ys)) c ≡ Some why
        → or_else (or_else (option_map (Blocked y) (bar_holder (set h x None) t own y)) (held_cause (set h x None) t own ys)) c ≡ Some why
    at deeper None free is' =
        ap (λ o. or_else (or_else (option_map (Blocked y) o) (held_cause (set h x None) t own ys)) c) (bar_freed h x t own y free) ∙ deeper is'
    at deeper (Some u) held is' =
        let apart : y ≡ x → ⊥ = λ e. false≢true (sym other ∙ ap (is_blocked_at x) (sym is') ∙ eq-eqb y x e) in
        ap (λ o. or_else (or_else (option_map (Blocked y) (cond (is_train t o && is_in y own) None o)) (held_cause (set h x None) t own ys)) c) (get_or-set_other h x y None None apart)
        ∙ ap (λ o. or_else (or_else (option_map (Blocked y) o) (held_cause (set h x None) t own ys)) c) held ∙ is'

-- a section whose cause isn't known any more
pub kept_cause : (x : ℕ) (known : Option Cause) (why : Cause) → cond (is_blocked_at x known) None known ≡ Some why → (known ≡ Some why) × (is_blocked_at x (Some why) ≡ false)
kept_cause x known why is =
    ⊎_elim
    (λ there. absurd (none-some why (sym (cond-true (is_blocked_at x known) None known there) ∙ is)))
    (λ not_there.
    let same : known ≡ Some why = sym (cond-false (is_blocked_at x known) None known not_there) ∙ is in
    (same, sym (ap (is_blocked_at x) same) ∙ not_there))
    (cases_Bool (is_blocked_at x known))
