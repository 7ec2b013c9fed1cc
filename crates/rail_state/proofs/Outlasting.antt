-- Causes by the table of holders, after a train takes sections.
use Rattle.std.proofs.Common.{◌≡◌, ℕ, ◌<◌, eqb, Bool, true, false, not, ◌&&◌, ◌||◌, cond, List, [], ◌∷◌, length, set, get_or, is_some, Option, Some, None, refl, sym, ap, ◌∙◌, subst, ⊎_elim, arith}
use Rattle.std.specs.Option.{option_map}
use Rattle.std.proofs.lemmas.Bool.{cases_Bool, cases_lt, eqb-true, false≢true, not-true, or_cases, or_parts}
use Rattle.std.proofs.lemmas.List.{get_or-set_same, get_or_past, length-set}
use Rattle.std.proofs.lemmas.Option.{none-some, same_Some}
use Rattle.rail_base.specs.declared.history.Cause.{Cause}
use Rattle.rail_base.specs.declared.history.Cause.TheVariants.{Blocked, NoList}
use Rattle.rail_rules.specs.Numbers.{is_in, or_else}
use Rattle.rail_laws_step.specs.HolderTables.{bar_holder, held_cause, is_train, taken_by}
use Rattle.rail_state.specs.TrainStates.{is_blocked_before, outlasts_taking}
use Rattle.rail_laws_step.proofs.CallerLemmas.{taken_out}
use Rattle.rail_state.proofs.Barring.{barred_is, unbarred}

-- where no holder of these sections bars the train, each is free for it
pub each_free : (h : List (Option ℕ)) (t : ℕ) (own xs : List ℕ) → held_cause h t own xs ≡ None → (x : ℕ) → is_in x xs ≡ true → bar_holder h t own x ≡ None
each_free h t own [] free x there = absurd (false≢true there)
each_free h t own (y ∷ ys) free x there = at (bar_holder h t own y) refl free (λ free_rest in_rest. each_free h t own ys free_rest x in_rest)
  where
    at : (o : Option ℕ) → bar_holder h t own y ≡ o → or_else (option_map (Blocked y) o) (held_cause h t own ys) ≡ None → (held_cause h t own ys ≡ None → is_in x ys ≡ true → bar_holder h t own x ≡ None) → bar_holder h t own x ≡ None
    at (Some u) is free' deeper = absurd (none-some _ (sym free'))
    at None is free' deeper =
        ⊎_elim
        (λ here. subst (λ z. bar_holder h t own z ≡ None) (eqb-true y x here) is)
        (λ later. deeper free' later)
        (or_cases (eqb y x) (is_in x ys) there)

-- the holders of the one table hold in the other as well
abbrev pub StillHold : List (Option ℕ) → List (Option ℕ) → Type 0
StillHold h later = (x u : ℕ) → get_or h x None ≡ Some u → get_or later x None ≡ Some u

held_known : (h : List (Option ℕ)) (x u : ℕ) → get_or h x None ≡ Some u → x < length h
held_known h x u held = ⊎_elim (λ known. known) (λ past. absurd (none-some u (sym (get_or_past h x None past) ∙ held))) (cases_lt x (length h))

-- the train holds what it took
taken_in : (h : List (Option ℕ)) (xs : List ℕ) (t x : ℕ) → x < length h → is_in x xs ≡ true → get_or (taken_by h xs t) x None ≡ Some t
taken_in h [] t x known there = absurd (false≢true there)
taken_in h (y ∷ ys) t x known there =
    ⊎_elim
    (λ later. taken_in (set h y (Some t)) ys t x (omega (arith, known, length-set h y (Some t))) later)
    (λ out.
    let same : y ≡ x = eqb-true y x (⊎_elim (λ here. here) (λ later. absurd (false≢true (sym out ∙ later))) (or_cases (eqb y x) (is_in x ys) there)) in
    taken_out (set h y (Some t)) ys t x out ∙ ap (λ z. get_or (set h z (Some t)) x None) same ∙ get_or-set_same h x (Some t) None known)
    (cases_Bool (is_in x ys))

-- who holds a section still does after a train took free ones, and kept those of its own overlap
pub taking_holds : (h : List (Option ℕ)) (t : ℕ) (own xs : List ℕ) → held_cause h t own xs ≡ None → StillHold h (taken_by h xs t)
taking_holds h t own xs free x u held =
    ⊎_elim
    (λ there. ⊎_elim
    (λ none. absurd (none-some u (sym none ∙ held)))
    (λ mine. taken_in h xs t x (held_known h x u held) there ∙ sym mine ∙ held)
    (unbarred t x own (get_or h x None) (each_free h t own xs free x there)))
    (λ out. taken_out h xs t x out ∙ held)
    (cases_Bool (is_in x xs))

-- a holder that bars the train still does
pub bar_still : (h later : List (Option ℕ)) → StillHold h later → (t : ℕ) (own : List ℕ) (y v : ℕ) → bar_holder h t own y ≡ Some v → bar_holder later t own y ≡ Some v
bar_still h later still t own y v is =
    let held : get_or h y None ≡ Some v = barred_is t y own (get_or h y None) v is in
    ap (λ o. cond (is_train t o && is_in y own) None o) (still y v held ∙ sym held) ∙ is

-- the first section whose holder bars the train, and who holds it
record IsFirstBlocked (h : List (Option ℕ)) (t : ℕ) (own : List ℕ) (why : Cause) : Type 0 where
  section : ℕ
  holder : ℕ
  why_is : why ≡ Blocked section holder
  held : bar_holder h t own section ≡ Some holder

first_blocked : (h : List (Option ℕ)) (t : ℕ) (own xs : List ℕ) (why : Cause) → held_cause h t own xs ≡ Some why → IsFirstBlocked h t own why
first_blocked h t own [] why is = absurd (none-some why is)
first_blocked h t own (y ∷ ys) why is = at (first_blocked h t own ys why) (bar_holder h t own y) refl is
  where
    at : (held_cause h t own ys ≡ Some why → IsFirstBlocked h t own why) → (o : Option ℕ) → bar_holder h t own y ≡ o → or_else (option_map (Blocked y) o) (held_cause h t own ys) ≡ Some why → IsFirstBlocked h t own why
    at deeper (Some u) held is' = record { section = y; holder = u; why_is = sym (same_Some (Blocked y u) why is'); held = held }
    at deeper None free is' = deeper is'

-- the first such section is the first one later too, where none before it is so then
still_first : (h later : List (Option ℕ)) → StillHold h later → (t : ℕ) (own : List ℕ) (x u : ℕ) → bar_holder h t own x ≡ Some u → (xs : List ℕ) → held_cause h t own xs ≡ Some (Blocked x u) → is_blocked_before later t own x xs ≡ false
    → held_cause later t own xs ≡ Some (Blocked x u)
still_first h later still t own x u held [] is before = absurd (none-some (Blocked x u) is)
still_first h later still t own x u held (y ∷ ys) is before = at (still_first h later still t own x u held ys) (bar_holder h t own y) refl is
  where
    at : (held_cause h t own ys ≡ Some (Blocked x u) → is_blocked_before later t own x ys ≡ false → held_cause later t own ys ≡ Some (Blocked x u)) → (o : Option ℕ) → bar_holder h t own y ≡ o → or_else (option_map (Blocked y) o) (held_cause h t own ys) ≡ Some (Blocked x u)
        → or_else (option_map (Blocked y) (bar_holder later t own y)) (held_cause later t own ys) ≡ Some (Blocked x u)
    at deeper (Some v) held' is' = ap (λ o. or_else (option_map (Blocked y) o) (held_cause later t own ys)) (bar_still h later still t own y v held') ∙ is'
    at deeper None free is' =
        ⊎_elim
        (λ here. absurd (none-some u (sym free ∙ subst (λ z. bar_holder h t own z ≡ Some u) (sym (eqb-true y x here)) held)))
        (λ other.
        let parts = or_parts (is_some (bar_holder later t own y)) (is_blocked_before later t own x ys)
        (ap (λ b. not b && (is_some (bar_holder later t own y) || is_blocked_before later t own x ys)) (sym other) ∙ before) in
        ap (λ o. or_else (option_map (Blocked y) o) (held_cause later t own ys)) (none_there (bar_holder later t own y) parts.0)
        ∙ deeper is' parts.1)
        (cases_Bool (eqb y x))
      where
        none_there : (o : Option ℕ) → is_some o ≡ false → o ≡ None
        none_there None off = refl
        none_there (Some v) off = absurd (false≢true (sym off))

-- a cause that isn't that no list is known is the same after free sections were taken, where it outlasts that
pub seen_outlasting : (h later : List (Option ℕ)) → StillHold h later → (t : ℕ) (own xs : List ℕ) (a b : Option Cause) (listed listed_later : Bool) (why : Cause)
    → or_else (or_else a (or_else b (held_cause h t own xs))) (cond listed None (Some NoList)) ≡ Some why → outlasts_taking later t own xs (Some why) ≡ true
    → or_else (or_else a (or_else b (held_cause later t own xs))) (cond listed_later None (Some NoList)) ≡ Some why
seen_outlasting h later still t own xs (Some d) b listed listed_later why is outlasts = is
seen_outlasting h later still t own xs None (Some d) listed listed_later why is outlasts = is
seen_outlasting h later still t own xs None None listed listed_later why is outlasts = at (held_cause h t own xs) refl is
  where
    at : (o : Option Cause) → held_cause h t own xs ≡ o → or_else o (cond listed None (Some NoList)) ≡ Some why
        → or_else (held_cause later t own xs) (cond listed_later None (Some NoList)) ≡ Some why
    at None none is' = absurd (no_list listed is')
      where
        no_list : (b : Bool) → cond b None (Some NoList) ≡ Some why → ⊥
        no_list true is'' = none-some why is''
        no_list false is'' = false≢true (ap (outlasts_taking later t own xs) is'' ∙ outlasts)
    at (Some d) held is' =
        let why_is : held_cause h t own xs ≡ Some why = held ∙ is' in
        let first : IsFirstBlocked h t own why = first_blocked h t own xs why why_is in
        let before : is_blocked_before later t own first.section xs ≡ false = not-true (is_blocked_before later t own first.section xs) (ap (λ (w : Cause). outlasts_taking later t own xs (Some w)) (sym first.why_is) ∙ outlasts) in
        ap (λ (o : Option Cause). or_else o (cond listed_later None (Some NoList)))
        (still_first h later still t own first.section first.holder first.held xs (why_is ∙ ap Some first.why_is) before)
        ∙ ap Some (sym first.why_is)

-- a cause that is known after free sections were taken was known before
pub outlasting_known : (b : Bool) (known : Option Cause) (why : Cause) → cond b known None ≡ Some why → (b ≡ true) × (known ≡ Some why)
outlasting_known true known why is = (refl, is)
outlasting_known false known why is = absurd (none-some why is)
