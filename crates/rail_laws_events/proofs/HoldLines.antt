-- No train has more hold lines than there are event lines.
use Rattle.std.proofs.Common.{◌≡◌, ℕ, zero, suc, ◌+◌, ◌≤◌, Bool, true, false, not, ◌&&◌, ◌||◌, cond, eqb, List, [], ◌∷◌, ◌++◌, length, Some, None, refl, sym, ap, ◌∙◌, subst, ⊎_elim, arith}
use Rattle.std.proofs.lemmas.Bool.{cases_Bool, cases_eq, false≢true, and_parts, or_cases, or_from, or_left, or_right, cond-true, cond-false, not-true, eq-eqb, ne_eqb, eqb-true}
use Rattle.rail_base.specs.declared.history.Entry.{Entry}
use Rattle.rail_base.specs.declared.history.What.{What}
use Rattle.rail_base.specs.declared.history.What.TheVariants.{Free, Arrive, Enter, Out, Ready, Told, Untold, Admit, Hold, End}
use Rattle.rail_base.specs.declared.history.Cause.{Cause}
use Rattle.rail_rules.specs.Numbers.{or_else}
use Rattle.rail_rules.specs.Plant.{bound}
use Rattle.rail_rules.specs.Fronts.{Front, is_end, has_ended, is_hold, has_held, is_admission, same_cause, hold_of}
use Rattle.rail_rules.specs.Orders.{Input}
use Rattle.rail_rules.specs.Causes.{place, is_ready, cause, last_hold, is_told_so}
use Rattle.rail_rules.specs.Lawful.{is_lawful, is_hold_due, may_follow}
use Rattle.rail_laws_front.specs.Premises.{IsWellFormed}
use Rattle.rail_laws_front.specs.Views.{Holds, Follows, is_event}
use Rattle.rail_laws_front.specs.Views.Follows.{by_event, by_admission, by_hold, by_end}
use Rattle.rail_laws_front.proofs.CallerLemmas.{lawful_before, lawful_last, not_ended}
use Rattle.rail_rules.specs.LineCounts.{holds_train, is_command, lines_that}
use Rattle.rail_laws_events.specs.Accounts.{is_train_event, written}
use Rattle.rail_laws_events.proofs.Bounded.{written_bound, bound_is}
use Rattle.rail_laws_events.proofs.Commands.{few_written, commands_counted}
use Rattle.rail_laws_events.proofs.SameCauses.{AreAlike, alike_after, cause_same, place_same}

-- a hold line of the train stands since the last event line or admission
pub held_now : ℕ → Front → Bool
held_now t [] = false
held_now t (line ∷ front) = is_hold line.entry.what && (holds_train t line.entry.what || held_now t front)

-- where it does, it is true still
pub held_told : (input : Input) (t : ℕ) (front : Front) → is_lawful input front ≡ true → held_now t front ≡ true → is_told_so input front t ≡ true
unfolding held_now
held_told input t [] lawful held = absurd (false≢true held)
held_told input t (line ∷ front) lawful held = step (held_told input t front (lawful_before input line front lawful)) (lawful_last input line front lawful)
  where
    no_hold : is_hold line.entry.what ≡ false → is_told_so input (line ∷ front) t ≡ true
    no_hold none = absurd (false≢true (sym none ∙ (and_parts (is_hold line.entry.what) (holds_train t line.entry.what || held_now t front) held).0))

    event_no_hold : (what : What) → is_event what ≡ true → is_hold what ≡ false
    event_no_hold (Hold u m why) h = absurd (false≢true h)
    event_no_hold (Admit u m note) h = refl
    event_no_hold End h = refl
    event_no_hold (Free x u) h = refl
    event_no_hold (Arrive u m) h = refl
    event_no_hold (Enter u m x) h = refl
    event_no_hold (Out u) h = refl
    event_no_hold (Ready u m) h = refl
    event_no_hold (Told k) h = refl
    event_no_hold (Untold k) h = refl

    by_hold_line : (held_now t front ≡ true → is_told_so input front t ≡ true) → (u m : ℕ) (why : Cause) → Holds input front line u m why → is_told_so input (line ∷ front) t ≡ true
    by_hold_line before u m why holds =
        let alike : AreAlike input (line ∷ front) front = alike_after input line front (ap is_admission holds.what) (λ k is. clash k (sym holds.what ∙ is)) holds.now in
        let cause_is = cause_same input (line ∷ front) front alike t in
        let place_is = place_same input (line ∷ front) front alike t in
        ⊎_elim
        (λ mine.
        let same : u ≡ t = mine in
        let P : ℕ → Type 0 = λ v. same_cause (Some why) (cause input front v) ≡ true in
        let this : hold_of t (suc (place (line ∷ front) t)) line.entry.what ≡ Some why =
        ap (hold_of t (suc (place (line ∷ front) t))) holds.what
        ∙ cond-true (eqb u t && eqb m (suc (place (line ∷ front) t))) (Some why) None
        (both (eqb u t) (eqb m (suc (place (line ∷ front) t))) (eq-eqb u t same) (eq-eqb m (suc (place (line ∷ front) t)) (holds.next ∙ ap (λ v. suc (place front v)) same ∙ ap suc (sym place_is)))) in
        ap (λ o. same_cause (or_else o (last_hold front t (suc (place (line ∷ front) t)))) (cause input (line ∷ front) t)) this
        ∙ ap (same_cause (Some why)) cause_is
        ∙ subst P same holds.true_cause)
        (λ other.
        let earlier : held_now t front ≡ true =
        ⊎_elim
        (λ here. absurd (other (eqb-true u t (sym (ap (holds_train t) holds.what) ∙ here))))
        (λ still. still)
        (or_cases (holds_train t line.entry.what) (held_now t front) (and_parts (is_hold line.entry.what) (holds_train t line.entry.what || held_now t front) held).1) in
        let none : hold_of t (suc (place (line ∷ front) t)) line.entry.what ≡ None =
        ap (hold_of t (suc (place (line ∷ front) t))) holds.what
        ∙ cond-false (eqb u t && eqb m (suc (place (line ∷ front) t))) (Some why) None (left_false (eqb u t) (eqb m (suc (place (line ∷ front) t))) (ne_eqb u t other)) in
        ap (λ o. same_cause (or_else o (last_hold front t (suc (place (line ∷ front) t)))) (cause input (line ∷ front) t)) none
        ∙ ap (λ p. same_cause (last_hold front t (suc p)) (cause input (line ∷ front) t)) place_is
        ∙ ap (same_cause (last_hold front t (suc (place front t)))) cause_is
        ∙ before earlier)
        (cases_eq u t)
      where
        clash : (k : ℕ) → Hold u m why ≡ Told k → ⊥
        clash k e = cc

        both : (a b : Bool) → a ≡ true → b ≡ true → (a && b) ≡ true
        both a b ha hb = ap (λ x. x && b) ha ∙ hb

        left_false : (a b : Bool) → a ≡ false → (a && b) ≡ false
        left_false a b ha = ap (λ x. x && b) ha

    step : (held_now t front ≡ true → is_told_so input front t ≡ true) → Follows input front line → is_told_so input (line ∷ front) t ≡ true
    step before (by_event happens) = no_hold (event_no_hold line.entry.what happens.event)
    step before (by_admission u m note admits) = no_hold (ap is_hold admits.what)
    step before (by_hold u m why holds) = by_hold_line before u m why holds
    step before (by_end ends) = no_hold (ap is_hold ends.what)

-- the hold lines of a train are no more than the event lines, and fewer where none of them is new
pub holds_counted : (input : Input) (t : ℕ) (front : Front) → is_lawful input front ≡ true → lines_that (holds_train t) front + cond (held_now t front || has_ended front) 0 1 ≤ lines_that is_event front + 1
unfolding held_now
holds_counted input t [] lawful = omega arith
holds_counted input t (line ∷ front) lawful = step (not_ended input front line (and_parts (is_lawful input front) (may_follow input front line) lawful).1) (holds_counted input t front (lawful_before input line front lawful)) (lawful_last input line front lawful)
  where
    clauses : (what : What) → is_event what ≡ true → (is_hold what ≡ false) × (holds_train t what ≡ false)
    clauses (Hold u m why) h = absurd (false≢true h)
    clauses (Admit u m note) h = absurd (false≢true h)
    clauses End h = absurd (false≢true h)
    clauses (Free x u) h = (refl, refl)
    clauses (Arrive u m) h = (refl, refl)
    clauses (Enter u m x) h = (refl, refl)
    clauses (Out u) h = (refl, refl)
    clauses (Ready u m) h = (refl, refl)
    clauses (Told k) h = (refl, refl)
    clauses (Untold k) h = (refl, refl)

    holds_last : held_now t front ≡ true → has_held front ≡ true
    holds_last = last_is front
      where
        last_is : (f : Front) → held_now t f ≡ true → has_held f ≡ true
        last_is [] held = absurd (false≢true held)
        last_is (before ∷ f) held = (and_parts (is_hold before.entry.what) (holds_train t before.entry.what || held_now t f) held).0

    no_more : (b : Bool) → cond b 0 1 ≤ 1
    no_more true = omega arith
    no_more false = omega arith

    one_more : (b : Bool) → cond b 1 0 ≤ 1
    one_more true = omega arith
    one_more false = omega arith

    new : Front → Bool
    new f = held_now t f || has_ended f

    -- where no hold line is new before a line
    open_before : has_ended front ≡ false → held_now t front ≡ false → cond (new front) 0 1 ≡ suc zero
    open_before going not_held = cond-false (new front) 0 1 (or_from (held_now t front) (has_ended front) not_held going)

    step : has_ended front ≡ false → lines_that (holds_train t) front + cond (new front) 0 1 ≤ lines_that is_event front + 1 → Follows input front line → lines_that (holds_train t) (line ∷ front) + cond (new (line ∷ front)) 0 1 ≤ lines_that is_event (line ∷ front) + 1
    step going h (by_event happens) =
        let kind = clauses line.entry.what happens.event in
        omega (arith, h, cond-true {A = ℕ} (is_event line.entry.what) 1 0 happens.event, cond-false {A = ℕ} (holds_train t line.entry.what) 1 0 kind.1, no_more (new (line ∷ front)))
    step going h (by_admission u m note admits) =
        ⊎_elim
        (λ held. absurd (false≢true (sym admits.no_hold ∙ holds_last held)))
        (λ not_held. omega (arith, h, open_before going not_held, ap {B = ℕ} (λ what. cond (holds_train t what) 1 0) admits.what, ap {B = ℕ} (λ what. cond (is_event what) 1 0) admits.what, no_more (new (line ∷ front))))
        (cases_Bool (held_now t front))
    step going h (by_end ends) =
        omega (
          arith,
          h,
          ap {B = ℕ} (λ what. cond (holds_train t what) 1 0) ends.what,
          ap {B = ℕ} (λ what. cond (is_event what) 1 0) ends.what,
          cond-true {A = ℕ} (new (line ∷ front)) 0 1 (or_right (held_now t (line ∷ front)) (is_end line.entry.what) (ap is_end ends.what)),
        )
    step going h (by_hold u m why holds) =
        ⊎_elim
        (λ mine.
        let P : ℕ → Type 0 = λ v. is_hold_due input front v ≡ true in
        let due : is_hold_due input front t ≡ true = subst P mine holds.due in
        let not_told : is_told_so input front t ≡ false = not-true (is_told_so input front t) (and_parts (is_ready input front t) (not (is_told_so input front t)) due).1 in
        ⊎_elim
        (λ held. absurd (false≢true (sym not_told ∙ held_told input t front (lawful_before input line front lawful) held)))
        (λ not_held. omega (
          arith,
          h,
          open_before going not_held,
          one_more (holds_train t line.entry.what),
          now_held (ap is_hold holds.what) (ap (holds_train t) holds.what ∙ eq-eqb u t mine),
          ap {B = ℕ} (λ what. cond (is_event what) 1 0) holds.what,
        ))
        (cases_Bool (held_now t front)))
        (λ other.
        let not_mine : holds_train t line.entry.what ≡ false = ap (holds_train t) holds.what ∙ ne_eqb u t other in
        let hold_is = ap is_hold holds.what in
        let end_is = ap is_end holds.what ∙ sym going in
        let still : new (line ∷ front) ≡ new front = λ i. (hold_is i && (not_mine i || held_now t front)) || end_is i in
        omega (arith, h, cond-false {A = ℕ} (holds_train t line.entry.what) 1 0 not_mine, ap {B = ℕ} (λ b. cond b 0 1) still, ap {B = ℕ} (λ what. cond (is_event what) 1 0) holds.what))
        (cases_eq u t)
      where
        now_held : is_hold line.entry.what ≡ true → holds_train t line.entry.what ≡ true → cond (new (line ∷ front)) 0 1 ≤ 0
        now_held a b =
            let mine = or_left (holds_train t line.entry.what) (held_now t front) b in
            let is : held_now t (line ∷ front) ≡ true = λ i. a i && mine i in
            omega (arith, cond-true {A = ℕ} (new (line ∷ front)) 0 1 (or_left (held_now t (line ∷ front)) (is_end line.entry.what) is))

-- at most so many hold lines for each train as the bound
events_counted : (front : Front) → lines_that is_event front ≡ length (written front) + lines_that is_command front
events_counted [] = refl
events_counted (line ∷ front) = omega (arith, events_counted front, kind line.entry.what, written_one (is_train_event line.entry.what) line.entry (written front))
  where
    written_one : (b : Bool) (e : Entry) (rest : List Entry) → length (cond b (e ∷ []) [] ++ rest) ≡ cond b 1 0 + length rest
    written_one true e rest = omega arith
    written_one false e rest = omega arith

    kind : (what : What) → cond (is_event what) 1 0 ≤ cond (is_train_event what) 1 0 + cond (is_command what) 1 0 × cond (is_train_event what) 1 0 + cond (is_command what) 1 0 ≤ cond (is_event what) 1 0
    kind (Hold u m why) = omega arith
    kind (Admit u m note) = omega arith
    kind End = omega arith
    kind (Free x u) = omega arith
    kind (Arrive u m) = omega arith
    kind (Enter u m x) = omega arith
    kind (Out u) = omega arith
    kind (Ready u m) = omega arith
    kind (Told k) = omega arith
    kind (Untold k) = omega arith

pub holds_bounded : (input : Input) → IsWellFormed input.plant → (t : ℕ) (front : Front) → is_lawful input front ≡ true → lines_that (holds_train t) front ≤ bound input.plant (length input.commands)
holds_bounded input fine t front lawful =
    omega (
      arith,
      holds_counted input t front lawful,
      events_counted front,
      written_bound input fine front lawful,
      commands_counted input front lawful,
      few_written input front,
      bound_is input.plant (length input.commands),
    )
