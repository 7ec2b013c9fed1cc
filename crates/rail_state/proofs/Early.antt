-- A move that isn't ready has no hold line, unless its train was cancelled.
use Rattle.std.proofs.Common.{◌≡◌, ℕ, suc, ◌+◌, ◌<◌, ◌≤◌, true, false, not, ◌&&◌, eqb, ltb, List, [], ◌∷◌, ◌++◌, length, Some, None, refl, sym, ap, ◌∙◌, subst, ⊎_elim, arith}
use Rattle.std.proofs.lemmas.Bool.{cases_Bool, cases_eq, cases_lt, false≢true, and_parts, and_from, false_from_ne_true, not_from_false, eq-eqb, eqb-true, not-true, or_parts, or_from}
use Rattle.std.proofs.lemmas.Option.{none-some}
use Rattle.std.specs.List.{list_any}
use Rattle.rail_base.specs.declared.history.Entry.{Entry}
use Rattle.rail_base.specs.declared.history.What.{What}
use Rattle.rail_base.specs.declared.history.What.TheVariants.{Free, Arrive, Enter, Out, Ready, Told, Untold, Admit, Hold, End}
use Rattle.rail_base.specs.declared.history.Note.{Note}
use Rattle.rail_base.specs.declared.history.Cause.{Cause}
use Rattle.rail_rules.specs.Plant.{moves}
use Rattle.rail_rules.specs.Fronts.{Front, Line, admissions, at_time, has_ended, has_held, instant, is_admission, is_end, is_hold, same_entry, stands}
use Rattle.rail_rules.specs.Orders.{Input, is_cancelled, told}
use Rattle.rail_rules.specs.Times.{ready}
use Rattle.rail_rules.specs.Causes.{is_deciding, is_ready, is_told_so, last_hold, place}
use Rattle.rail_rules.specs.Events.{due_lines, ready_line}
use Rattle.rail_rules.specs.Lawful.{is_lawful, may_follow}
use Rattle.rail_rules.proofs.CallerLemmas.{admissions_kept}
use Rattle.rail_laws_front.specs.Premises.{IsWellFormed}
use Rattle.rail_laws_front.specs.Views.{Admits, Follows, Happens}
use Rattle.rail_laws_front.specs.Views.Follows.{by_admission, by_end, by_event, by_hold}
use Rattle.rail_laws_front.proofs.CallerLemmas.{length_added, lawful_before, lawful_last, not_ended, due_found, due_from_command, due_from_event, deciding_quiet, admission_added, admission_of_other, event_admits_nothing, stands_on, was_running, event_before, same_time, times_rise}
use Rattle.rail_laws_step.proofs.CallerLemmas.{event_holds_nothing, held_other, no_later_hold, unheld, ready_is_past}

-- a train that is ready and isn't cancelled stays ready until it is admitted
still_ready : (input : Input) (line : Line) (front : Front) (t : ℕ) → admissions (line ∷ front) t ≡ admissions front t → is_cancelled t (told input.commands (line ∷ front)) ≡ false → is_ready input front t ≡ true → is_ready input (line ∷ front) t ≡ true
still_ready input line front t adms runs is =
    let next : Entry = ready_line input.plant t (admissions front t) (place front t) in
    let outer = and_parts (ltb (place front t) (moves input.plant t) && not (is_cancelled t (told input.commands front))) (stands front next) is in
    let inner = and_parts (ltb (place front t) (moves input.plant t)) (not (is_cancelled t (told input.commands front))) outer.0 in
    let same : is_ready input (line ∷ front) t ≡ (ltb (place front t) (moves input.plant t) && not (is_cancelled t (told input.commands (line ∷ front))) && stands (line ∷ front) next) =
    λ i. ltb (length (adms i)) (moves input.plant t) && not (is_cancelled t (told input.commands (line ∷ front))) && stands (line ∷ front) (ready_line input.plant t (adms i) (length (adms i))) in
    same
    ∙ and_from (ltb (place front t) (moves input.plant t) && not (is_cancelled t (told input.commands (line ∷ front)))) (stands (line ∷ front) next)
    (and_from (ltb (place front t) (moves input.plant t)) (not (is_cancelled t (told input.commands (line ∷ front)))) inner.0 (not_from_false (is_cancelled t (told input.commands (line ∷ front))) runs))
    (stands_on line front next outer.1)

pub no_early_hold : (input : Input) (front : Front) (t : ℕ) → is_lawful input front ≡ true → is_cancelled t (told input.commands front) ≡ false → is_ready input front t ≡ false → last_hold front t (suc (place front t)) ≡ None
no_early_hold input [] t lawful runs unready = refl
no_early_hold input (line ∷ front) t lawful runs unready =
    step (no_early_hold input front t (lawful_before input line front lawful) (was_running input.commands line front t runs)) (lawful_last input line front lawful)
  where
    unready_before : admissions (line ∷ front) t ≡ admissions front t → is_ready input front t ≡ false
    unready_before adms = false_from_ne_true (is_ready input front t) (λ is. false≢true (sym unready ∙ still_ready input line front t adms runs is))

    -- where the line leaves the train's admissions and the hold lines of its next move
    same_move : (is_ready input front t ≡ false → last_hold front t (suc (place front t)) ≡ None) → admissions (line ∷ front) t ≡ admissions front t
        → last_hold (line ∷ front) t (suc (place front t)) ≡ last_hold front t (suc (place front t)) → last_hold (line ∷ front) t (suc (place (line ∷ front) t)) ≡ None
    same_move before adms last = ap (λ (list : List ℕ). last_hold (line ∷ front) t (suc (length list))) adms ∙ last ∙ before (unready_before adms)

    step : (is_ready input front t ≡ false → last_hold front t (suc (place front t)) ≡ None) → Follows input front line → last_hold (line ∷ front) t (suc (place (line ∷ front) t)) ≡ None
    step before (by_event happens) =
        same_move before (admissions_kept line front t (event_admits_nothing line.entry.what happens.event)) (unheld line front t (suc (place front t)) (event_holds_nothing line.entry.what happens.event))
    step before (by_end ends) =
        same_move before (admissions_kept line front t (ap is_admission ends.what)) (unheld line front t (suc (place front t)) (ap is_hold ends.what))
    step before (by_admission u m note admits) =
        ⊎_elim
        (λ mine.
        let P : ℕ → Type 0 = λ v. place (line ∷ front) v ≡ suc (place front v) in
        let raised : place (line ∷ front) t ≡ suc (place front t) = subst P (sym mine) (ap length (admission_added line front u m note admits.what) ∙ length_added (admissions front u) line.entry.at) in
        unheld line front t (suc (place (line ∷ front) t)) (ap is_hold admits.what)
        ∙ no_later_hold input front t (place (line ∷ front) t) (lawful_before input line front lawful) (omega (arith, raised)))
        (λ other. same_move before (admission_of_other line front u m note t admits.what other) (unheld line front t (suc (place front t)) (ap is_hold admits.what)))
        (cases_eq t u)
    step before (by_hold u m why holds) =
        let adms : admissions (line ∷ front) t ≡ admissions front t = admissions_kept line front t (ap is_admission holds.what) in
        let other : u ≡ t → m ≡ suc (place front t) → ⊥ = λ mine here.
        let P : ℕ → Type 0 = λ v. is_ready input front v ≡ true in
        let was : is_ready input front t ≡ true = subst P mine (and_parts (is_ready input front u) (not (is_told_so input front u)) holds.due).0 in
        false≢true (sym (unready_before adms) ∙ was) in
        same_move before adms (held_other line front t (suc (place front t)) u m why holds.what other)

-- a hold line's instant has no due line before it
held_deciding : (input : Input) (line : Line) (front : Front) → is_hold line.entry.what ≡ true → Follows input front line → (is_deciding input front ≡ true) × (line.entry.at ≡ instant front)
held_deciding input line front h (by_hold t m why holds) = (holds.deciding, holds.now)
held_deciding input line front h (by_event happens) = absurd (false≢true (sym (event_holds_nothing line.entry.what happens.event) ∙ h))
held_deciding input line front h (by_admission t m note admits) = absurd (false≢true (sym (ap is_hold admits.what) ∙ h))
held_deciding input line front h (by_end ends) = absurd (false≢true (sym (ap is_hold ends.what) ∙ h))

hold_idle : (w : What) → is_hold w ≡ true → is_admission w ≡ false
hold_idle (Hold t m why) h = refl
hold_idle (Admit t m note) h = absurd (false≢true h)
hold_idle (Free x t) h = refl
hold_idle (Arrive t m) h = refl
hold_idle (Enter t m x) h = refl
hold_idle (Out t) h = refl
hold_idle (Ready t m) h = refl
hold_idle (Told k) h = refl
hold_idle (Untold k) h = refl
hold_idle End h = refl

-- no event line, and none of a command, follows a hold line at its instant
no_event_at_hold : (input : Input) (line hold : Line) (front : Front) → is_hold hold.entry.what ≡ true → Follows input front hold → Happens input (hold ∷ front) line → line.entry.at ≡ hold.entry.at → ⊥
no_event_at_hold input line hold front is_held follows happens same =
    let deciding = held_deciding input hold front is_held follows in
    let quiet = deciding_quiet input front deciding.0 in
    let none_there : list_any (λ (d : Entry). eqb d.at (instant front)) (due_lines input front) ≡ false = not-true (list_any (λ (d : Entry). eqb d.at (instant front)) (due_lines input front)) quiet in
    ⊎_elim
    (λ due.
    false≢true (sym none_there ∙ due_from_event input front (λ d. eqb d.at (instant front)) due.train due.entry due.known
    (event_before input hold front due.train due.entry (hold_idle hold.entry.what is_held) due.event)
    (or_parts (same_entry due.entry hold.entry) (stands front due.entry) due.unwritten).1
    (eq-eqb due.entry.at (instant front) (omega (arith, same_time line.entry due.entry due.passing, same, deciding.1)))))
    (λ due.
    let told_line : Entry = at_time due.command.at (Told (suc (0 + due.index))) in
    let untold_line : Entry = at_time due.command.at (Untold (suc (0 + due.index))) in
    let parts = or_parts (stands (hold ∷ front) told_line) (stands (hold ∷ front) untold_line) due.unwritten in
    false≢true (sym none_there ∙ due_from_command input front (λ (d : Entry). eqb d.at (instant front)) (record {
      index = due.index;
      command = due.command;
      listed = due.listed;
      unwritten = or_from (stands front told_line) (stands front untold_line) (or_parts (same_entry told_line hold.entry) (stands front told_line) parts.0).1 (or_parts (same_entry untold_line hold.entry) (stands front untold_line) parts.1).1;
      passing = eq-eqb due.command.at (instant front) (omega (arith, same_time line.entry _ due.passing, same, deciding.1));
    })))
    (due_found input (hold ∷ front) (same_entry line.entry) happens.due)

-- after the last hold line of a move that is still to be admitted, unless it is the last line, time has gone on since it was ready
pub held_before_now : (input : Input) → IsWellFormed input.plant → (front : Front) → is_lawful input front ≡ true → has_ended front ≡ false → has_held front ≡ false
    → (t : ℕ) (why : Cause) → is_cancelled t (told input.commands front) ≡ false → last_hold front t (suc (place front t)) ≡ Some why
    → ready input.plant t (admissions front t) (place front t) < instant front
held_before_now input fine [] lawful going unheld_last t why runs is = absurd (none-some why is)
held_before_now input fine (line ∷ front) lawful going unheld_last t why runs is =
    step (not_ended input front line (and_parts (is_lawful input front) (may_follow input front line) lawful).1)
    (λ open_before no_hold c held. held_before_now input fine front (lawful_before input line front lawful) open_before no_hold t c
    (was_running input.commands line front t runs) held) (lawful_last input line front lawful)
  where
    before : is_lawful input front ≡ true
    before = lawful_before input line front lawful

    same_hold : is_hold line.entry.what ≡ false → admissions (line ∷ front) t ≡ admissions front t → last_hold front t (suc (place front t)) ≡ Some why
    same_hold no_hold adms = ap (λ list. last_hold front t (suc (length list))) (sym adms) ∙ sym (unheld line front t (suc (place (line ∷ front) t)) no_hold) ∙ is

    was_ready : last_hold front t (suc (place front t)) ≡ Some why → is_ready input front t ≡ true
    was_ready held = ⊎_elim (λ yes_ready. yes_ready) (λ not_ready. absurd (none-some why (sym (no_early_hold input front t before (was_running input.commands line front t runs) not_ready) ∙ held))) (cases_Bool (is_ready input front t))

    moved : admissions (line ∷ front) t ≡ admissions front t → ready input.plant t (admissions front t) (place front t) < line.entry.at → ready input.plant t (admissions (line ∷ front) t) (place (line ∷ front) t) < line.entry.at
    moved adms lt = subst (λ list. ready input.plant t list (length list) < line.entry.at) (sym adms) lt

    at_event : has_ended front ≡ false → (has_ended front ≡ false → has_held front ≡ false → (w : Cause) → last_hold front t (suc (place front t)) ≡ Some w
        → ready input.plant t (admissions front t) (place front t) < instant front) → Happens input front line → ready input.plant t (admissions (line ∷ front) t) (place
        (line ∷ front) t) < line.entry.at
    at_event open_before earlier happens =
        let adms = admissions_kept line front t (event_admits_nothing line.entry.what happens.event) in
        let held = same_hold (event_holds_nothing line.entry.what happens.event) adms in
        let past = ready_is_past input fine front t before (was_ready held) in
        let rises = times_rise input fine line front lawful in
        moved adms
        (⊎_elim
        (λ last_held. omega (arith, past, later front refl last_held happens rises))
        (λ other. omega (arith, earlier open_before other why held, rises))
        (cases_Bool (has_held front)))
      where
        later : (f : Front) → f ≡ front → has_held f ≡ true → Happens input front line → instant front ≤ line.entry.at → instant front < line.entry.at
        later [] same_front h happens' rises' = absurd (false≢true h)
        later (hold ∷ rest) same_front h happens' rises' =
            ⊎_elim
            (λ lt. lt)
            (λ ge. absurd (no_event_at_hold input line hold rest h (lawful_last input hold rest (subst (λ g. is_lawful input g ≡ true) (sym same_front) before)) (subst (λ g. Happens input g line) (sym same_front) happens') (omega (arith, ge, rises', ap instant same_front))))
            (cases_lt (instant front) line.entry.at)

    at_admission : has_ended front ≡ false → (has_ended front ≡ false → has_held front ≡ false → (w : Cause) → last_hold front t (suc (place front t)) ≡ Some w
        → ready input.plant t (admissions front t) (place front t) < instant front) → (u m : ℕ) (note : Note) → Admits input front line u m note → ready input.plant t (admissions
        (line ∷ front) t) (place (line ∷ front) t) < line.entry.at
    at_admission open_before earlier u m note admits =
        ⊎_elim
        (λ here.
        let same : t ≡ u = eqb-true t u here in
        let raised : place (line ∷ front) t ≡ suc (place front t) = ap length (subst (λ v. admissions (line ∷ front) v ≡ admissions front v ++ line.entry.at ∷ []) (sym same) (admission_added line front u m note admits.what)) ∙ length_added (admissions front t) line.entry.at in
        absurd (none-some why (sym (no_later_hold input front t (suc (place front t)) before (omega arith)) ∙ sym (unheld line front t (suc (suc (place front t))) (ap is_hold admits.what)) ∙ ap (λ p. last_hold (line ∷ front) t (suc p)) (sym raised) ∙ is)))
        (λ other.
        let apart : t ≡ u → ⊥ = λ e. false≢true (sym other ∙ eq-eqb t u e) in
        let adms = admission_of_other line front u m note t admits.what apart in
        moved adms (subst (λ now. ready input.plant t (admissions front t) (place front t) < now) (sym admits.now) (earlier open_before admits.no_hold why (same_hold (ap is_hold admits.what) adms))))
        (cases_Bool (eqb t u))

    step : has_ended front ≡ false → (has_ended front ≡ false → has_held front ≡ false → (w : Cause) → last_hold front t (suc (place front t)) ≡ Some w
        → ready input.plant t (admissions front t) (place front t) < instant front) → Follows input front line → ready input.plant t (admissions (line ∷ front) t) (place
        (line ∷ front) t) < line.entry.at
    step open_before earlier (by_event happens) = at_event open_before earlier happens
    step open_before earlier (by_admission u m note admits) = at_admission open_before earlier u m note admits
    step open_before earlier (by_hold u m c holds) = absurd (false≢true (sym unheld_last ∙ ap is_hold holds.what))
    step open_before earlier (by_end ends) = absurd (false≢true (sym going ∙ ap is_end ends.what))
