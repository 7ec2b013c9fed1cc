-- What a told line tells takes effect, and so a cancelled train is never admitted.
use Rattle.std.proofs.Common.{◌≡◌, ℕ, suc, ◌-◌, ◌≤◌, Bool, true, false, not, ◌||◌, cond, eqb, List, [], ◌∷◌, ◌++◌, length, refl, sym, ap, ◌∙◌, subst, ◌⊎◌, inl, inr, ⊎_elim, arith}
use Rattle.std.specs.List.{slice_get}
use Rattle.std.proofs.lemmas.Bool.{cases_eq, false≢true, and_parts, or_cases, eqb-true, cond-true}
use Rattle.rail_base.specs.declared.history.Entry.{Entry}
use Rattle.rail_base.specs.declared.history.What.{What}
use Rattle.rail_base.specs.declared.history.What.TheVariants.{Free, Arrive, Enter, Out, Ready, Told, Untold, Admit, Hold, End}
use Rattle.rail_base.specs.declared.orders.Order.{Order}
use Rattle.rail_base.specs.declared.orders.Order.TheVariants.{Policy, Retire, Close, Reopen, Stop, Go, Cancel, Priority}
use Rattle.rail_rules.specs.Fronts.{Line, Front, is_admission, admissions}
use Rattle.rail_rules.specs.Orders.{Input, orders_at, orders_of, told, is_cancelled, takes_effect}
use Rattle.rail_rules.specs.Causes.{place}
use Rattle.rail_rules.specs.Lawful.{is_lawful}
use Rattle.rail_rules.proofs.CallerLemmas.{admissions_kept}
use Rattle.rail_laws_front.specs.Views.{Happens, Follows}
use Rattle.rail_laws_front.specs.Views.Follows.{by_event, by_admission, by_hold, by_end}
use Rattle.rail_laws_front.proofs.CallerLemmas.{lawful_before, lawful_last, admission_of_other, event_admits_nothing, tells_nothing, waiting_parts}
use Rattle.rail_rules.specs.LineCounts.{is_command}
use Rattle.rail_laws_events.proofs.Commands.{command_new}

-- the order that a told line tells took effect before it
pub record TellsOne (input : Input) (front : Front) (line : Line) : Type 0 where
  pub order : Order
  pub counted : (k : ℕ) → line.entry.what ≡ Told k → 1 ≤ k
  pub orders : orders_of input.commands line.entry.what ≡ order ∷ []
  pub effect : takes_effect input front (told input.commands front) order ≡ true

tells_one : (input : Input) (front : Front) (line : Line) (k : ℕ) → Happens input front line → line.entry.what ≡ Told k → TellsOne input front line
tells_one input front line k happens is =
    let new = command_new input front line happens (ap is_command is) in
    let b : Bool = takes_effect input front (told input.commands front) new.command.what in
    let what_is : Told k ≡ cond b (Told (suc new.index)) (Untold (suc new.index)) = sym is ∙ ap (λ (x : Entry). x.what) new.line_is in
    let effect : b ≡ true = told_true b new.index what_is in
    let number : k ≡ suc new.index = told_number k new.index (what_is ∙ cond-true b (Told (suc new.index)) (Untold (suc new.index)) effect) in
    let index : k - 1 ≡ new.index = omega arith in
    record {
      order = new.command.what;
      counted = λ n told. omega (arith, told_number n (new.index) (sym told ∙ is ∙ ap Told number));
      orders = ap (orders_of input.commands) is ∙ ap (λ i. orders_at (slice_get input.commands i)) index ∙ ap orders_at new.listed;
      effect = effect;
    }
  where
    told_true : (b : Bool) (i : ℕ) → Told k ≡ cond b (Told (suc i)) (Untold (suc i)) → b ≡ true
    told_true true i e = refl
    told_true false i e = cc

    told_number : (n i : ℕ) → Told n ≡ Told (suc i) → n ≡ suc i
    told_number n i e = cc

-- a told cancel finds no admission of its train
cancel_effect : (input : Input) (front : Front) (t : ℕ) (order : Order) → takes_effect input front (told input.commands front) order ≡ true → is_cancelled t (order ∷ []) ≡ true → place front t ≡ 0
cancel_effect input front t (Cancel u) effect cancels =
    let both = and_parts (eqb (length (admissions front u)) 0) (not (is_cancelled u (told input.commands front))) effect in
    let P : ℕ → Type 0 = λ v. length (admissions front v) ≡ 0 in
    ⊎_elim
    (λ mine. subst P (eqb-true u t mine) (eqb-true (length (admissions front u)) 0 both.0))
    (λ none. absurd (false≢true none))
    (or_cases (eqb u t) false cancels)
cancel_effect input front t (Policy name) effect cancels = absurd (false≢true cancels)
cancel_effect input front t (Retire name) effect cancels = absurd (false≢true cancels)
cancel_effect input front t (Close x) effect cancels = absurd (false≢true cancels)
cancel_effect input front t (Reopen x) effect cancels = absurd (false≢true cancels)
cancel_effect input front t (Stop u) effect cancels = absurd (false≢true cancels)
cancel_effect input front t (Go u) effect cancels = absurd (false≢true cancels)
cancel_effect input front t (Priority u n) effect cancels = absurd (false≢true cancels)

-- what is cancelled by one order or by those before it
cancelled_cases : (t : ℕ) (order : Order) (before : List Order) → is_cancelled t (order ∷ before) ≡ true → (is_cancelled t (order ∷ []) ≡ true) ⊎ (is_cancelled t before ≡ true)
cancelled_cases t (Cancel u) before h = ⊎_elim (λ mine. inl (ap (λ b. b || false) mine)) (λ earlier. inr earlier) (or_cases (eqb u t) (is_cancelled t before) h)
cancelled_cases t (Policy name) before h = inr h
cancelled_cases t (Retire name) before h = inr h
cancelled_cases t (Close x) before h = inr h
cancelled_cases t (Reopen x) before h = inr h
cancelled_cases t (Stop u) before h = inr h
cancelled_cases t (Go u) before h = inr h
cancelled_cases t (Priority u n) before h = inr h

-- the number of a told line, where it is one
told_line : (what : What) → ((k : ℕ) × (what ≡ Told k)) ⊎ ((k : ℕ) → what ≡ Told k → ⊥)
told_line (Told k) = inl (k, refl)
told_line (Untold k) = inr (λ n e. cc)
told_line (Free x t) = inr (λ n e. cc)
told_line (Arrive t m) = inr (λ n e. cc)
told_line (Enter t m x) = inr (λ n e. cc)
told_line (Out t) = inr (λ n e. cc)
told_line (Ready t m) = inr (λ n e. cc)
told_line (Admit t m note) = inr (λ n e. cc)
told_line (Hold t m why) = inr (λ n e. cc)
told_line End = inr (λ n e. cc)

-- a cancelled train has no admission
pub cancelled_never_goes : (input : Input) (front : Front) → is_lawful input front ≡ true → (t : ℕ) → is_cancelled t (told input.commands front) ≡ true → place front t ≡ 0
cancelled_never_goes input [] lawful t h = refl
cancelled_never_goes input (line ∷ front) lawful t h = step (cancelled_never_goes input front (lawful_before input line front lawful) t) (lawful_last input line front lawful)
  where
    untold : ((k : ℕ) → line.entry.what ≡ Told k → ⊥) → is_cancelled t (told input.commands front) ≡ true
    untold none = sym (ap (λ orders. is_cancelled t (orders ++ told input.commands front)) (tells_nothing input.commands line.entry.what none)) ∙ h

    idle : is_admission line.entry.what ≡ false → place front t ≡ 0 → place (line ∷ front) t ≡ 0
    idle none zero_place = ap length (admissions_kept line front t none) ∙ zero_place

    step : (is_cancelled t (told input.commands front) ≡ true → place front t ≡ 0) → Follows input front line → place (line ∷ front) t ≡ 0
    step before (by_event happens) =
        idle (event_admits_nothing line.entry.what happens.event)
        (⊎_elim
        (λ tells.
        let one = tells_one input front line tells.0 happens tells.1 in
        ⊎_elim
        (λ now. cancel_effect input front t one.order one.effect now)
        (λ earlier. before earlier)
        (cancelled_cases t one.order (told input.commands front) (sym (ap (λ orders. is_cancelled t (orders ++ told input.commands front)) one.orders) ∙ h)))
        (λ none. before (untold none))
        (told_line line.entry.what))
    step before (by_admission u m note admits) =
        let cancelled = untold (λ k is. clash k (sym admits.what ∙ is)) in
        ⊎_elim
        (λ same.
        let P : ℕ → Type 0 = λ v. is_cancelled v (told input.commands front) ≡ true in
        absurd (false≢true (sym (waiting_parts input front u admits.waiting).runs ∙ subst P same cancelled)))
        (λ other. ap length (admission_of_other line front u m note t admits.what other) ∙ before cancelled)
        (cases_eq t u)
      where
        clash : (k : ℕ) → Admit u m note ≡ Told k → ⊥
        clash k e = cc
    step before (by_hold u m why holds) = idle (ap is_admission holds.what) (before (untold (λ k is. clash k (sym holds.what ∙ is))))
      where
        clash : (k : ℕ) → Hold u m why ≡ Told k → ⊥
        clash k e = cc
    step before (by_end ends) = idle (ap is_admission ends.what) (before (untold (λ k is. clash k (sym ends.what ∙ is))))
      where
        clash : (k : ℕ) → End ≡ Told k → ⊥
        clash k e = cc

-- a told line tells an order that takes effect
pub told_tells : (input : Input) (line : Line) (front : Front) (k : ℕ) → is_lawful input (line ∷ front) ≡ true → line.entry.what ≡ Told k → TellsOne input front line
told_tells input line front k lawful told = by (lawful_last input line front lawful)
  where
    by : Follows input front line → TellsOne input front line
    by (by_event happens) = tells_one input front line k happens told
    by (by_admission u m note admits) = absurd (clash (sym admits.what ∙ told))
      where
        clash : Admit u m note ≡ Told k → ⊥
        clash e = cc
    by (by_hold u m why holds) = absurd (clash (sym holds.what ∙ told))
      where
        clash : Hold u m why ≡ Told k → ⊥
        clash e = cc
    by (by_end ends) = absurd (clash (sym ends.what ∙ told))
      where
        clash : End ≡ Told k → ⊥
        clash e = cc

-- a line tells no order, or one that takes effect
pub told_effect : (input : Input) (line : Line) (front : Front) → is_lawful input (line ∷ front) ≡ true → (orders_of input.commands line.entry.what ≡ []) ⊎ TellsOne input front line
told_effect input line front lawful =
    ⊎_elim
    (λ told. inr (told_tells input line front told.0 lawful told.1))
    (λ none. inl (tells_nothing input.commands line.entry.what none))
    (told_line line.entry.what)
