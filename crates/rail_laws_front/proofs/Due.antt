-- Which lines are due: free lines, ready lines, and what an admission adds.
use Rattle.std.proofs.Common.{◌≡◌, ℕ, suc, ◌+◌, ◌<◌, Bool, true, false, not, ◌&&◌, cond, eqb, ltb, List, [], ◌∷◌, ◌++◌, length, refl, sym, ap, ◌∙◌, subst, ◌⊎◌, inl, inr, ⊎_elim, arith}
use Rattle.std.specs.List.{list_any}
use Rattle.std.specs.Cmp.Lexicographic.{bytes_decides}
use Rattle.std.proofs.lemmas.Bool.{and_parts, and_from, or_from, or_parts, cases_Bool, cases_lt, cases_eq, false≢true, eqb-true, eq-eqb, not-true, ltb-true, lt-ltb}
use Rattle.rail_base.specs.declared.history.Entry.{Entry}
use Rattle.rail_base.specs.declared.history.What.TheVariants.{Free, Told, Untold, Admit}
use Rattle.rail_base.specs.declared.history.Note.{Note}
use Rattle.rail_rules.specs.Numbers.{same_numbers, is_in}
use Rattle.rail_rules.specs.Moves.{stand}
use Rattle.rail_rules.specs.Plant.{Plant, trains, moves, moves_of, claims, step_section}
use Rattle.rail_rules.specs.Fronts.{Line, Front, at_time, instant, has_ended, admissions, code_of, same_entry, stands}
use Rattle.rail_rules.specs.Orders.{Input, told, is_cancelled}
use Rattle.rail_rules.specs.Times.{is_admitted}
use Rattle.rail_rules.specs.Intervals.{does_stand, is_open, is_taken_over, end_time}
use Rattle.rail_rules.proofs.CallerLemmas.{end_taken, freed_from, taken_parts}
use Rattle.rail_rules.specs.Events.{command_line, due_lines, is_quiet, ready_line}
use Rattle.rail_rules.specs.Causes.{place, is_deciding}
use Rattle.rail_laws_front.specs.Premises.{IsWellFormed}
use Rattle.rail_laws_front.specs.Views.{Admits}
use Rattle.rail_laws_front.specs.EventLines.{IsEvent}
use Rattle.rail_laws_front.specs.EventLines.IsEvent.{freeing, readying}
use Rattle.rail_laws_front.proofs.Adding.{added}
use Rattle.rail_laws_front.proofs.Agreeing.{length_added as length_more}
use Rattle.rail_laws_front.specs.Invariant.{IsTimely, AreStanding}
use Rattle.rail_laws_front.proofs.Growing.{admission_added, admission_of_other, told_kept, waiting_parts}
use Rattle.rail_laws_front.proofs.DueFound.{IsCommandDue, IsEventDue, due_found, due_from_event, due_from_command}
use Rattle.rail_laws_front.proofs.PlacesKept.{standing_is_open}
use Rattle.rail_rules.specs.Apart.{IsStep}

pub same_entry_refl : (e : Entry) → same_entry e e ≡ true
same_entry_refl e = and_from (eqb e.at e.at) (same_numbers (code_of e.what) (code_of e.what)) (eq-eqb e.at e.at refl) ((bytes_decides (code_of e.what) (code_of e.what)).1 refl)

-- an event line of a lawful front stands or is due
pub stands_or_due : (input : Input) (front : Front) (t : ℕ) (e : Entry) → t < trains input.plant → IsEvent input.plant t (admissions front t) (is_cancelled t (told input.commands front)) e → (stands front e ≡ true) ⊎ (list_any (same_entry e) (due_lines input front) ≡ true)
stands_or_due input front t e lt event =
    ⊎_elim
    (λ stood. inl stood)
    (λ unwritten. inr (due_from_event input front (same_entry e) t e lt event unwritten (same_entry_refl e)))
    (cases_Bool (stands front e))

-- the free line of an interval that ends after the instant is due
pub free_due : (input : Input) (front : Front) (t m j : ℕ) → IsTimely input front → IsStep input.plant front t m j
    → is_open input.plant t (admissions front t) m j ≡ false
    → instant front < end_time input.plant t (admissions front t) m j
    → list_any
    (same_entry
    (at_time (end_time input.plant t (admissions front t) m j) (Free (step_section input.plant t m j) t)))
    (due_lines input front)
    ≡ true
free_due input front t m j h step closed later =
    let line : Entry = at_time (end_time input.plant t (admissions front t) m j) (Free (step_section input.plant t m j) t) in
    let untaken : is_taken_over input.plant t (admissions front t) m j ≡ false =
    ⊎_elim
    (λ taken. absurd (omega (arith, later, end_taken input.plant t (admissions front t) m j taken, h.admitted_by t (suc m) (taken_parts input.plant t (admissions front t) m j taken).more)))
    (λ no. no)
    (cases_Bool (is_taken_over input.plant t (admissions front t) m j)) in
    ⊎_elim
    (λ stood. absurd (omega (arith, h.past line stood)))
    (λ due. due)
    (stands_or_due input front t line step.known (freeing m j step.admitted_move step.step (freed_from input.plant t (admissions front t) m j closed untaken) refl))

-- the ready line of the next move of a train that isn't cancelled stands or is due
pub ready_stands_or_due : (input : Input) (front : Front) (t : ℕ) → t < trains input.plant
    → place front t < moves input.plant t → is_cancelled t (told input.commands front) ≡ false
    → (stands front (ready_line input.plant t (admissions front t) (place front t)) ≡ true)
    ⊎ (list_any (same_entry (ready_line input.plant t (admissions front t) (place front t))) (due_lines input front)
    ≡ true)
ready_stands_or_due input front t lt room runs = stands_or_due input front t (ready_line input.plant t (admissions front t) (place front t)) lt (readying (place front t) (omega arith) room runs refl)

-- the open intervals are those of the standing sets
open_move : (plant : Plant) (t : ℕ) (adms : List ℕ) (m j : ℕ) → m < length adms → is_open plant t adms m j ≡ true → (suc m ≡ length adms) × (does_stand plant t m j ≡ true)
open_move plant t adms m j lt opens =
    let both = and_parts (does_stand plant t m j) (not (is_admitted adms (suc m))) opens in
    let last : suc m ≡ length adms =
    ⊎_elim
    (λ more. absurd (false≢true (sym (not-true (is_admitted adms (suc m)) both.1) ∙ lt-ltb (suc m) (length adms) more)))
    (λ no_more. omega arith)
    (cases_lt (suc m) (length adms)) in
    (last, both.0)

pub are_standing : (input : Input) → IsWellFormed input.plant → (front : Front) → AreStanding input.plant front
are_standing input fine front =
    let plant : Plant = input.plant in
    record {
      each = λ t x lt is.
          let found = standing_is_open input fine front t x lt is in
          record { move = found.0; index = found.1; step = found.2; section = found.4; opens = found.5 };
      only = λ t m j step opens.
          let last = open_move plant t (admissions front t) m j step.admitted_move opens in
          let P : ℕ → Type 0 = λ p. is_in (step_section plant t m j) (stand (moves_of plant) t p) ≡ true in
          subst P last.0 last.1;
      one = λ t m j n i first second opens_first opens_second same.
          let last_first = open_move plant t (admissions front t) m j first.admitted_move opens_first in
          let last_second = open_move plant t (admissions front t) n i second.admitted_move opens_second in
          let moves_same : m ≡ n = omega (arith, last_first.0, last_second.0) in
          let P : ℕ → Type 0 = λ k. i < claims plant t k → step_section plant t m j ≡ step_section plant t k i → j ≡ i in
          let room : m < moves plant t = standing_room t m j last_first.1 in
          (moves_same, subst P moves_same (λ li is. fine.distinct t m j i room first.step li is) second.step same);
    }
  where
    standing_room : (t m j : ℕ) → does_stand input.plant t m j ≡ true → m < moves input.plant t
    standing_room t m j stands_there =
        ⊎_elim
        (λ more. omega (arith, ltb-true (suc m) (moves input.plant t) more))
        (λ last.
        let P : Bool → Type 0 = λ b. is_in (step_section input.plant t m j) (cond b ((moves_of input.plant).standing t m) []) ≡ true in
        absurd (false≢true (subst P last stands_there)))
        (cases_Bool (ltb (suc m) (moves input.plant t)))

-- at an instant at which trains are admitted nothing else is due
pub deciding_quiet : (input : Input) (front : Front) → is_deciding input front ≡ true → is_quiet (due_lines input front) (instant front) ≡ true
deciding_quiet input [] h = absurd (false≢true h)
deciding_quiet input (line ∷ before) h = (and_parts (not (has_ended (line ∷ before))) (is_quiet (due_lines input (line ∷ before)) line.entry.at) h).1

-- an admission makes no line due at its instant but its train's next ready line
pub admission_adds : (input : Input) → IsWellFormed input.plant
    → (line : Line) (front : Front) (t m : ℕ) (note : Note) → Admits input front line t m note
    → list_any
    (λ d. eqb d.at line.entry.at
    && not (same_entry d (ready_line input.plant t (admissions (line ∷ front) t) (place (line ∷ front) t))))
    (due_lines input (line ∷ front))
    ≡ false
admission_adds input fine line front t m note admits =
    ⊎_elim
    (λ some. absurd (found (due_found input (line ∷ front) other some)))
    (λ none. none)
    (cases_Bool (list_any other (due_lines input (line ∷ front))))
  where
    next : Entry
    next = ready_line input.plant t (admissions (line ∷ front) t) (place (line ∷ front) t)

    other : Entry → Bool
    other d = eqb d.at line.entry.at && not (same_entry d (ready_line input.plant t (admissions (line ∷ front) t) (place (line ∷ front) t)))

    now : Entry → Bool
    now d = eqb d.at (instant front)

    quiet : list_any (λ (d : Entry). eqb d.at (instant front)) (due_lines input front) ≡ false
    quiet = not-true (list_any (λ (d : Entry). eqb d.at (instant front)) (due_lines input front)) (deciding_quiet input front (waiting_parts input front t admits.waiting).deciding)

    old_event : (u : ℕ) (e : Entry) → u < trains input.plant → IsEvent input.plant u (admissions front u) (is_cancelled u (told input.commands front)) e → stands (line ∷ front) e ≡ false → e.at ≡ line.entry.at → ⊥
    old_event u e lt event unwritten is =
        false≢true (sym quiet ∙ due_from_event input front (λ (d : Entry). eqb d.at (instant front)) u e lt event (or_parts (same_entry e line.entry) (stands front e) unwritten).1 (eq-eqb e.at (instant front) (is ∙ admits.now)))

    tells : told input.commands (line ∷ front) ≡ told input.commands front
    tells = told_kept input.commands line front (λ k is. clash k (sym admits.what ∙ is))
      where
        clash : (k : ℕ) → Admit t m note ≡ Told k → ⊥
        clash k e = cc

    event : (due : IsEventDue input (line ∷ front) other) → ⊥
    event due =
        let both = and_parts (eqb due.entry.at line.entry.at) (not (same_entry due.entry next)) due.passing in
        let at_now : due.entry.at ≡ line.entry.at = eqb-true due.entry.at line.entry.at both.0 in
        let u : ℕ = due.train in
        let c : Bool = is_cancelled u (told input.commands front) in
        let same_c : is_cancelled u (told input.commands (line ∷ front)) ≡ c = ap (is_cancelled u) tells in
        ⊎_elim
        (λ same.
        let P : List ℕ → Type 0 = λ adms. IsEvent input.plant u adms (is_cancelled u (told input.commands (line ∷ front))) due.entry in
        let R : Bool → Type 0 = λ b. IsEvent input.plant u (admissions front u ++ line.entry.at ∷ []) b due.entry in
        let S : ℕ → Type 0 = λ v. admissions (line ∷ front) v ≡ admissions front v ++ line.entry.at ∷ [] in
        let T : ℕ → Type 0 = λ v. length (admissions front v) < moves input.plant v in
        let grown = subst S (sym same) (admission_added line front t m note admits.what) in
        let room = subst T (sym same) (waiting_parts input front t admits.waiting).room in
        ⊎_elim
        (λ old. old_event u due.entry due.known old due.unwritten at_now)
        (λ new. ⊎_elim
        (λ later. omega (arith, at_now))
        (λ is_next.
        let U : List ℕ → Type 0 = λ adms. due.entry ≡ ready_line input.plant u adms (length adms) in
        let V : ℕ → Type 0 = λ v. due.entry ≡ ready_line input.plant v (admissions (line ∷ front) v) (place (line ∷ front) v) in
        let as_last : due.entry ≡ ready_line input.plant u (admissions front u ++ line.entry.at ∷ []) (length (admissions front u ++ line.entry.at ∷ [])) =
        is_next.0 ∙ ap (ready_line input.plant u (admissions front u ++ line.entry.at ∷ [])) (sym (length_more (admissions front u) line.entry.at)) in
        let here : due.entry ≡ next = subst V same (subst U (sym grown) as_last) in
        let W : Entry → Type 0 = λ x. not (same_entry x next) ≡ true in
        false≢true (sym (not-true (same_entry next next) (subst W here both.1)) ∙ same_entry_refl next))
        new)
        (added input.plant fine u (admissions front u) line.entry.at c room due.entry (subst R same_c (subst P grown due.event))))
        (λ another.
        let P : List ℕ → Type 0 = λ adms. IsEvent input.plant u adms (is_cancelled u (told input.commands (line ∷ front))) due.entry in
        let R : Bool → Type 0 = λ b. IsEvent input.plant u (admissions front u) b due.entry in
        old_event u due.entry due.known (subst R same_c (subst P (admission_of_other line front t m note u admits.what another) due.event)) due.unwritten at_now)
        (cases_eq u t)

    command : (due : IsCommandDue input (line ∷ front) input.commands 0 other) → ⊥
    command due =
        let both = and_parts (eqb due.command.at line.entry.at) (not (same_entry (command_line input (line ∷ front) due.command (0 + due.index)) next)) due.passing in
        let told_line : Entry = at_time due.command.at (Told (suc (0 + due.index))) in
        let untold_line : Entry = at_time due.command.at (Untold (suc (0 + due.index))) in
        let parts = or_parts (stands (line ∷ front) told_line) (stands (line ∷ front) untold_line) due.unwritten in
        false≢true (sym quiet ∙ due_from_command input front (λ (d : Entry). eqb d.at (instant front)) (record {
          index = due.index;
          command = due.command;
          listed = due.listed;
          unwritten = or_from (stands front told_line) (stands front untold_line) (or_parts (same_entry told_line line.entry) (stands front told_line) parts.0).1 (or_parts (same_entry untold_line line.entry) (stands front untold_line) parts.1).1;
          passing = eq-eqb due.command.at (instant front) (eqb-true due.command.at line.entry.at both.0 ∙ admits.now);
        }))

    found : IsEventDue input (line ∷ front) other ⊎ IsCommandDue input (line ∷ front) input.commands 0 other → ⊥
    found (inl due) = event due
    found (inr due) = command due
