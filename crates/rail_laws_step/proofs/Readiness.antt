-- What each kind of line does to who is ready.
use Rattle.std.proofs.Common.{◌≡◌, ℕ, suc, ◌≤◌, Bool, true, false, not, ◌&&◌, ◌||◌, ltb, List, [], ◌∷◌, ◌++◌, length, refl, sym, ap, ◌∙◌, ⊎_elim, arith}
use Rattle.std.proofs.lemmas.Bool.{false≢true, and_parts, and_from, and_right, or_cases, or_left, lt-ltb, not_from_false, false_from_ne_true}
use Rattle.rail_base.specs.declared.history.Entry.{Entry}
use Rattle.rail_base.specs.declared.history.What.{What}
use Rattle.rail_base.specs.declared.history.What.TheVariants.{Ready, Told, Admit}
use Rattle.rail_base.specs.declared.history.Note.{Note}
use Rattle.rail_base.specs.declared.orders.Order.{Order}
use Rattle.rail_rules.specs.Plant.{moves}
use Rattle.rail_rules.specs.Fronts.{Line, Front, instant, is_admission, admissions, same_entry, stands}
use Rattle.rail_rules.specs.Orders.{Input, told, is_cancelled}
use Rattle.rail_rules.specs.Times.{ready}
use Rattle.rail_rules.specs.Events.{ready_line}
use Rattle.rail_rules.specs.Causes.{place, is_ready}
use Rattle.rail_rules.specs.Lawful.{is_lawful}
use Rattle.rail_rules.proofs.CallerLemmas.{admissions_kept}
use Rattle.rail_laws_front.specs.Premises.{IsWellFormed}
use Rattle.rail_laws_front.specs.Views.{Admits}
use Rattle.rail_laws_front.proofs.CallerLemmas.{lawful_before, lawful_last, length_added, admission_added, admission_of_other, told_kept, timely, same_entry_refl}
use Rattle.rail_laws_events.proofs.CallerLemmas.{one_entry}
use Rattle.rail_laws_step.specs.LineKinds.{is_ready_line}
use Rattle.rail_laws_step.proofs.ReadyLines.{names_train, IsReadyDue, ready_followed, next_is_ready, ready_reached}

-- whether a train is ready, where its admissions and the orders are these
readies : Input → Front → ℕ → List ℕ → List Order → Bool
readies input front t adms orders = ltb (length adms) (moves input.plant t) && not (is_cancelled t orders) && stands front (ready_line input.plant t adms (length adms))

-- a line that leaves the admissions and the orders, and is no ready line of the train
pub ready_same : (input : Input) (line : Line) (front : Front) (t : ℕ)
    → admissions (line ∷ front) t ≡ admissions front t
    → told input.commands (line ∷ front) ≡ told input.commands front → is_ready_line t line.entry.what ≡ false
    → is_ready input (line ∷ front) t ≡ is_ready input front t
unfolding readies
ready_same input line front t adms orders other =
    let next : Entry = ready_line input.plant t (admissions front t) (place front t) in
    let no_match : same_entry next line.entry ≡ false = false_from_ne_true (same_entry next line.entry) (λ is.
    false≢true (sym other ∙ names_train t (suc (place front t)) line.entry.what (sym (ap (λ (e : Entry). e.what) (one_entry next line.entry is))))) in
    let first : readies input (line ∷ front) t (admissions (line ∷ front) t) (told input.commands (line ∷ front)) ≡ readies input (line ∷ front) t (admissions front t) (told input.commands front) =
    λ i. readies input (line ∷ front) t (adms i) (orders i) in
    first ∙ ap (λ b. ltb (place front t) (moves input.plant t) && not (is_cancelled t (told input.commands front)) && (b || stands front next)) no_match

-- nobody is ready before the first line
pub nobody_ready : (input : Input) (t : ℕ) → is_ready input [] t ≡ false
nobody_ready input t = and_right (ltb 0 (moves input.plant t) && not (is_cancelled t [])) false refl

-- a ready line
pub ready_by_line : (input : Input) (line : Line) (front : Front) (t m : ℕ)
    → is_lawful input (line ∷ front) ≡ true → line.entry.what ≡ Ready t m
    → (m ≡ suc (place front t)) × (is_ready input front t ≡ false)
    × (is_ready input (line ∷ front) t ≡ true)
    × (line.entry.at ≡ ready input.plant t (admissions front t) (place front t))
unfolding readies
ready_by_line input line front t m lawful what =
    let due : IsReadyDue input front line.entry t m = ready_followed input front line t m what (lawful_last input line front lawful) in
    let here : due.event.move ≡ place front t = next_is_ready input front (lawful_before input line front lawful) line.entry t m due in
    let next : Entry = ready_line input.plant t (admissions front t) (place front t) in
    let is : line.entry ≡ next = due.event.is ∙ ap (ready_line input.plant t (admissions front t)) here in
    let first : Bool = ltb (place front t) (moves input.plant t) && not (is_cancelled t (told input.commands front)) in
    let unwritten : stands front next ≡ false = ap (stands front) (sym is) ∙ due.unwritten in
    let adms : admissions (line ∷ front) t ≡ admissions front t = admissions_kept line front t (ap is_admission what) in
    let orders : told input.commands (line ∷ front) ≡ told input.commands front = told_kept input.commands line front (λ k told_is. clash k (sym what ∙ told_is)) in
    let same : readies input (line ∷ front) t (admissions (line ∷ front) t) (told input.commands (line ∷ front)) ≡ readies input (line ∷ front) t (admissions front t) (told input.commands front) =
    λ i. readies input (line ∷ front) t (adms i) (orders i) in
    let matches : same_entry next line.entry ≡ true = ap (same_entry next) is ∙ same_entry_refl next in (
      omega (arith, due.event.number, here),
      and_right first (stands front next) unwritten,
      same ∙ and_from first (stands (line ∷ front) next)
          (and_from (ltb (place front t) (moves input.plant t)) (not (is_cancelled t (told input.commands front))) (lt-ltb (place front t) (moves input.plant t) (omega (arith, due.event.room, here))) (not_from_false (is_cancelled t (told input.commands front)) due.event.runs))
          (or_left (same_entry next line.entry) (stands front next) matches),
      ap (λ (e : Entry). e.at) is,
    )
  where
    clash : (k : ℕ) → Ready t m ≡ Told k → ⊥
    clash k e = cc

-- an admission
pub unready_by_admission : (input : Input) (line : Line) (front : Front) (t m : ℕ) (note : Note)
    → is_lawful input (line ∷ front) ≡ true → Admits input front line t m note
    → (is_ready input (line ∷ front) t ≡ false)
    × ((u : ℕ) → (u ≡ t → ⊥) → is_ready input (line ∷ front) u ≡ is_ready input front u)
unready_by_admission input line front t m note lawful admits =
    let adms : List ℕ = admissions (line ∷ front) t in
    let next : Entry = ready_line input.plant t adms (length adms) in
    let raised : length adms ≡ suc (place front t) = ap length (admission_added line front t m note admits.what) ∙ length_added (admissions front t) line.entry.at in
    let unwritten : stands (line ∷ front) next ≡ false = false_from_ne_true (stands (line ∷ front) next) (λ stood.
    ⊎_elim
    (λ here. false≢true (sym (ap (is_ready_line t) admits.what) ∙ names_train t (suc (length adms)) line.entry.what (sym (ap (λ (e : Entry). e.what) (one_entry next line.entry here)))))
    (λ earlier. omega (arith, raised, ready_reached input front (lawful_before input line front lawful) (ready input.plant t adms (length adms)) t (length adms) earlier))
    (or_cases (same_entry next line.entry) (stands front next) stood)) in (
      and_right (ltb (length adms) (moves input.plant t) && not (is_cancelled t (told input.commands (line ∷ front)))) (stands (line ∷ front) next) unwritten,
      λ u other. ready_same input line front u (admission_of_other line front t m note u admits.what other) (told_kept input.commands line front (λ k told_is. clash k (sym admits.what ∙ told_is))) (ap (is_ready_line u) admits.what),
    )
  where
    clash : (k : ℕ) → Admit t m note ≡ Told k → ⊥
    clash k e = cc

-- a train that is ready
pub ready_is_past : (input : Input) → IsWellFormed input.plant → (front : Front) (t : ℕ) → is_lawful input front ≡ true → is_ready input front t ≡ true → ready input.plant t (admissions front t) (place front t) ≤ instant front
ready_is_past input fine front t lawful is =
    let next : Entry = ready_line input.plant t (admissions front t) (place front t) in
    (timely input fine front lawful).past next (and_parts (ltb (place front t) (moves input.plant t) && not (is_cancelled t (told input.commands front))) (stands front next) is).1
