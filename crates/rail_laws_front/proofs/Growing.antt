-- What a line does to the admissions, the places and the orders.
use Rattle.std.proofs.Common.{◌≡◌, ℕ, ◌<◌, true, false, not, eqb, ltb, List, [], ◌∷◌, ◌++◌, refl, sym, ap, ◌∙◌, ⊎_elim}
use Rattle.std.proofs.lemmas.Bool.{and_parts, or_right, cases_Bool, false≢true, eq-eqb, ne_eqb, ltb-true, cond-true, cond-false}
use Rattle.rail_base.specs.declared.history.Entry.{Entry}
use Rattle.rail_base.specs.declared.history.What.{What}
use Rattle.rail_base.specs.declared.history.What.TheVariants.{Free, Arrive, Enter, Out, Ready, Told, Untold, Admit, Hold, End}
use Rattle.rail_base.specs.declared.history.Note.{Note}
use Rattle.rail_base.specs.declared.orders.Command.{Command}
use Rattle.rail_base.specs.declared.orders.Order.{Order}
use Rattle.rail_base.specs.declared.orders.Order.TheVariants.{Policy, Retire, Close, Reopen, Stop, Go, Cancel, Priority}
use Rattle.rail_rules.specs.Plant.{moves}
use Rattle.rail_rules.specs.Fronts.{Line, Front, is_admission, admits, admissions, stands, same_entry}
use Rattle.rail_rules.specs.Orders.{Input, orders_of, told, is_cancelled}
use Rattle.rail_rules.specs.Causes.{place, is_ready, waits, is_deciding}
use Rattle.rail_laws_front.specs.Views.{is_event}

-- an admission is added to the admissions of its train
pub admission_added : (line : Line) (front : Front) (t m : ℕ) (note : Note) → line.entry.what ≡ Admit t m note → admissions (line ∷ front) t ≡ admissions front t ++ line.entry.at ∷ []
admission_added line front t m note is =
    cond-true (admits t line.entry.what) (admissions front t ++ line.entry.at ∷ []) (admissions front t) (ap (admits t) is ∙ eq-eqb t t refl)

-- and to no others
pub admission_of_other : (line : Line) (front : Front) (t m : ℕ) (note : Note) (u : ℕ) → line.entry.what ≡ Admit t m note → (u ≡ t → ⊥) → admissions (line ∷ front) u ≡ admissions front u
admission_of_other line front t m note u is other =
    cond-false (admits u line.entry.what) (admissions front u ++ line.entry.at ∷ []) (admissions front u) (ap (admits u) is ∙ ne_eqb t u (λ e. other (sym e)))

-- an event line is no admission
pub event_admits_nothing : (what : What) → is_event what ≡ true → is_admission what ≡ false
event_admits_nothing (Admit t m note) h = absurd (false≢true h)
event_admits_nothing (Hold t m why) h = refl
event_admits_nothing End h = refl
event_admits_nothing (Free x t) h = refl
event_admits_nothing (Arrive t m) h = refl
event_admits_nothing (Enter t m x) h = refl
event_admits_nothing (Out t) h = refl
event_admits_nothing (Ready t m) h = refl
event_admits_nothing (Told k) h = refl
event_admits_nothing (Untold k) h = refl

-- a cancelled train stays cancelled
cancelled_after : (t : ℕ) (orders before : List Order) → is_cancelled t before ≡ true → is_cancelled t (orders ++ before) ≡ true
cancelled_after t [] before h = h
cancelled_after t (Cancel u ∷ orders) before h = or_right (eqb u t) (is_cancelled t (orders ++ before)) (cancelled_after t orders before h)
cancelled_after t (Policy name ∷ orders) before h = cancelled_after t orders before h
cancelled_after t (Retire name ∷ orders) before h = cancelled_after t orders before h
cancelled_after t (Close x ∷ orders) before h = cancelled_after t orders before h
cancelled_after t (Reopen x ∷ orders) before h = cancelled_after t orders before h
cancelled_after t (Stop u ∷ orders) before h = cancelled_after t orders before h
cancelled_after t (Go u ∷ orders) before h = cancelled_after t orders before h
cancelled_after t (Priority u n ∷ orders) before h = cancelled_after t orders before h

pub stays_cancelled : (commands : List Command) (line : Line) (front : Front) (t : ℕ) → is_cancelled t (told commands front) ≡ true → is_cancelled t (told commands (line ∷ front)) ≡ true
stays_cancelled commands line front t h = cancelled_after t (orders_of commands line.entry.what) (told commands front) h

-- who isn't cancelled wasn't
pub was_running : (commands : List Command) (line : Line) (front : Front) (t : ℕ) → is_cancelled t (told commands (line ∷ front)) ≡ false → is_cancelled t (told commands front) ≡ false
was_running commands line front t h =
    ⊎_elim
    (λ cancelled. absurd (false≢true (sym h ∙ stays_cancelled commands line front t cancelled)))
    (λ running. running)
    (cases_Bool (is_cancelled t (told commands front)))

-- a line that tells nothing changes no order
pub tells_nothing : (commands : List Command) (what : What) → ((k : ℕ) → what ≡ Told k → ⊥) → orders_of commands what ≡ []
tells_nothing commands (Told k) h = absurd (h k refl)
tells_nothing commands (Admit t m note) h = refl
tells_nothing commands (Hold t m why) h = refl
tells_nothing commands End h = refl
tells_nothing commands (Free x t) h = refl
tells_nothing commands (Arrive t m) h = refl
tells_nothing commands (Enter t m x) h = refl
tells_nothing commands (Out t) h = refl
tells_nothing commands (Ready t m) h = refl
tells_nothing commands (Untold k) h = refl

pub told_kept : (commands : List Command) (line : Line) (front : Front) → ((k : ℕ) → line.entry.what ≡ Told k → ⊥) → told commands (line ∷ front) ≡ told commands front
told_kept commands line front h = ap (λ orders. orders ++ told commands front) (tells_nothing commands line.entry.what h)

-- what stands goes on standing
pub stands_on : (line : Line) (front : Front) (e : Entry) → stands front e ≡ true → stands (line ∷ front) e ≡ true
stands_on line front e h = or_right (same_entry e line.entry) (stands front e) h

-- a train that waits has a next move and runs
pub record IsWaiting (input : Input) (front : Front) (t : ℕ) : Type 0 where
  pub deciding : is_deciding input front ≡ true
  pub ready : is_ready input front t ≡ true
  pub room : place front t < moves input.plant t
  pub runs : is_cancelled t (told input.commands front) ≡ false

pub waiting_parts : (input : Input) (front : Front) (t : ℕ) → waits input front t ≡ true → IsWaiting input front t
waiting_parts input front t h =
    let both = and_parts (is_deciding input front) (is_ready input front t) h in
    let parts = and_parts _ _ both.1 in
    let first = and_parts (ltb (place front t) (moves input.plant t)) (not (is_cancelled t (told input.commands front))) parts.0 in
    record {
      deciding = both.0;
      ready = both.1;
      room = ltb-true (place front t) (moves input.plant t) first.0;
      runs = ⊎_elim
          (λ cancelled. absurd (false≢true (sym (ap not cancelled) ∙ first.1)))
          (λ running. running)
          (cases_Bool (is_cancelled t (told input.commands front)));
    }
