-- No line is ever late, and times do not fall.
use Rattle.std.proofs.Common.{◌≡◌, ℕ, suc, ◌+◌, ◌<◌, ◌≤◌, Bool, true, false, ◌&&◌, eqb, ltb, List, [], ◌∷◌, ◌++◌, length, take, Some, sym, ap, ◌∙◌, subst, ◌⊎◌, inl, inr, ⊎_elim, arith, zero-add}
use Rattle.std.specs.List.{slice_get}
use Rattle.std.proofs.lemmas.Bool.{and_parts, or_left, or_right, or_cases, or_parts, cases_Bool, cases_lt, cases_eq, false≢true, eqb-true, lt-ltb}
use Rattle.rail_base.specs.declared.history.Entry.{Entry}
use Rattle.rail_base.specs.declared.history.What.TheVariants.{Told, Untold, Admit}
use Rattle.rail_base.specs.declared.history.Note.{Note}
use Rattle.rail_base.specs.declared.orders.Command.{Command}
use Rattle.rail_rules.specs.Numbers.{comes_before, same_numbers}
use Rattle.rail_rules.specs.Plant.{Plant, moves}
use Rattle.rail_rules.specs.Fronts.{Line, Front, at_time, instant, is_admission, admissions, code_of, rank, same_entry, stands}
use Rattle.rail_rules.specs.Orders.{Input, told, is_cancelled}
use Rattle.rail_rules.specs.Times.{admitted}
use Rattle.rail_rules.specs.Events.{command_line, is_written}
use Rattle.rail_rules.specs.Lawful.{is_lawful}
use Rattle.rail_rules.proofs.CallerLemmas.{admissions_kept}
use Rattle.rail_laws_front.specs.Premises.{IsWellFormed}
use Rattle.rail_laws_front.specs.Views.{Happens, Admits, Follows}
use Rattle.rail_laws_front.specs.Views.Follows.{by_event, by_admission, by_hold, by_end}
use Rattle.rail_laws_front.specs.EventLines.{IsEvent}
use Rattle.rail_laws_front.specs.EventLines.IsEvent.{entering, arriving, freeing, leaving, readying}
use Rattle.rail_laws_front.proofs.Viewing.{lawful_before, lawful_last}
use Rattle.rail_laws_front.proofs.Agreeing.{agree_added, admitted_added, length_added}
use Rattle.rail_laws_front.proofs.Adding.{Adds, added}
use Rattle.rail_laws_front.specs.Invariant.{IsOpenOrWritten, IsTimely}
use Rattle.rail_laws_front.proofs.Growing.{admission_added, admission_of_other, event_admits_nothing, was_running, told_kept, stands_on, waiting_parts}
use Rattle.rail_laws_front.proofs.DueFound.{due_found, due_from_event, due_from_command}

-- one entry has one time
pub same_time : (a b : Entry) → same_entry a b ≡ true → a.at ≡ b.at
same_time a b h = eqb-true a.at b.at (and_parts (eqb a.at b.at) (same_numbers (code_of a.what) (code_of b.what)) h).0

-- what isn't before another entry isn't earlier
pub not_earlier : (d e : Entry) → comes_before (rank d) (rank e) ≡ false → e.at ≤ d.at
not_earlier d e h =
    ⊎_elim
    (λ lt. absurd (false≢true (sym h ∙ or_left (ltb d.at e.at) (eqb d.at e.at && comes_before (take 2 (code_of d.what)) (take 2 (code_of e.what))) (lt-ltb d.at e.at lt))))
    (λ ge. ge)
    (cases_lt d.at e.at)

-- an event line of a train that runs now is one where it ran before
pub running_event : (plant : Plant) (t : ℕ) (adms : List ℕ) (now before : Bool) (e : Entry) → (now ≡ false → before ≡ false) → IsEvent plant t adms now e → IsEvent plant t adms before e
running_event plant t adms now before e h (entering m j lm lj is) = entering m j lm lj is
running_event plant t adms now before e h (arriving m lm is) = arriving m lm is
running_event plant t adms now before e h (freeing m j lm lj closed is) = freeing m j lm lj closed is
running_event plant t adms now before e h (leaving m lm last is) = leaving m lm last is
running_event plant t adms now before e h (readying m lm lmoves runs is) = readying m lm lmoves (h runs) is

-- an event line after a line that is no admission was one before it
pub event_before : (input : Input) (line : Line) (front : Front) (t : ℕ) (e : Entry)
    → is_admission line.entry.what ≡ false
    → IsEvent input.plant t (admissions (line ∷ front) t) (is_cancelled t (told input.commands (line ∷ front))) e
    → IsEvent input.plant t (admissions front t) (is_cancelled t (told input.commands front)) e
event_before input line front t e idle event =
    let now : Bool = is_cancelled t (told input.commands (line ∷ front)) in
    let before : Bool = is_cancelled t (told input.commands front) in
    let P : List ℕ → Type 0 = λ adms. IsEvent input.plant t adms now e in
    running_event input.plant t (admissions front t) now before e (was_running input.commands line front t) (subst P (admissions_kept line front t idle) event)

-- what the last line keeps
module _ (input : Input) (line : Line) (front : Front) (h : IsTimely input front) (later : instant front ≤ line.entry.at) where
  past_after : (e : Entry) → stands (line ∷ front) e ≡ true → e.at ≤ line.entry.at
  past_after e stood =
      ⊎_elim
      (λ here. omega (arith, same_time e line.entry here))
      (λ before. omega (arith, h.past e before, later))
      (or_cases (same_entry e line.entry) (stands front e) stood)

  written_on : (command : Command) (k : ℕ) → is_written front command k ≡ true → is_written (line ∷ front) command k ≡ true
  written_on command k written =
      let told_line : Entry = at_time command.at (Told (suc k)) in
      let untold_line : Entry = at_time command.at (Untold (suc k)) in
      ⊎_elim
      (λ is. or_left (stands (line ∷ front) told_line) (stands (line ∷ front) untold_line) (stands_on line front told_line is))
      (λ is. or_right (stands (line ∷ front) told_line) (stands (line ∷ front) untold_line) (stands_on line front untold_line is))
      (or_cases (stands front told_line) (stands front untold_line) written)

  -- the line came at the instant
  idle_commands : line.entry.at ≡ instant front → (k : ℕ) (command : Command) → slice_get input.commands k ≡ Some command → (is_written (line ∷ front) command k ≡ true) ⊎ (line.entry.at ≤ command.at)
  idle_commands now k command listed =
      ⊎_elim (λ written. inl (written_on command k written)) (λ to_come. inr (omega (arith, now, to_come))) (h.commands k command listed)

  idle_admissions : is_admission line.entry.what ≡ false → (t m : ℕ) → m < length (admissions (line ∷ front) t) → admitted (admissions (line ∷ front) t) m ≤ line.entry.at
  idle_admissions idle t m lm =
      let same = admissions_kept line front t idle in
      let P : List ℕ → Type 0 = λ adms. m < length adms → admitted adms m ≤ line.entry.at in
      subst P (sym same) (λ lt. omega (arith, h.admitted_by t m lt, later)) lm

-- a hold line and the end line stand at the instant and change nothing
timely_idle : (input : Input) (line : Line) (front : Front) → IsTimely input front → is_admission line.entry.what ≡ false → line.entry.at ≡ instant front → IsTimely input (line ∷ front)
timely_idle input line front h idle now = record {
  past = past_after input line front h (omega (arith, now));
  events = λ t e lt event.
      ⊎_elim
      (λ stood. inl (stands_on line front e stood))
      (λ to_come. inr (omega (arith, now, to_come)))
      (h.events t e lt (event_before input line front t e idle event));
  commands = idle_commands input line front h (omega (arith, now)) now;
  admitted_by = idle_admissions input line front h (omega (arith, now)) idle;
}

-- an event line isn't before the instant
pub event_later : (input : Input) (line : Line) (front : Front) → IsTimely input front → Happens input front line → instant front ≤ line.entry.at
event_later input line front h happens =
    ⊎_elim
    (λ due.
    let time = same_time line.entry due.entry due.passing in
    ⊎_elim
    (λ stood. absurd (false≢true (sym due.unwritten ∙ stood)))
    (λ to_come. omega (arith, time, to_come))
    (h.events due.train due.entry due.known due.event))
    (λ due.
    let time = same_time line.entry (command_line input front due.command (0 + due.index)) due.passing in
    let unwritten : is_written front due.command due.index ≡ false = sym (ap (is_written front due.command) (zero-add due.index)) ∙ due.unwritten in
    ⊎_elim
    (λ written. absurd (false≢true (sym unwritten ∙ written)))
    (λ to_come. omega (arith, time, to_come))
    (h.commands due.index due.command due.listed))
    (due_found input front (same_entry line.entry) happens.due)

timely_event : (input : Input) (line : Line) (front : Front) → IsTimely input front → Happens input front line → IsTimely input (line ∷ front)
timely_event input line front h happens =
    let later = event_later input line front h happens in
    let idle = event_admits_nothing line.entry.what happens.event in
    let earlier : Entry → Bool = λ d. comes_before (rank d) (rank line.entry) in
    record {
      past = past_after input line front h later;
      events = λ t e lt event.
          let before = event_before input line front t e idle event in
          ⊎_elim
          (λ stood. inl stood)
          (λ open_line.
          let unwritten = (or_parts (same_entry e line.entry) (stands front e) open_line).1 in
          ⊎_elim
          (λ sooner. absurd (false≢true (sym happens.least ∙ due_from_event input front earlier t e lt before unwritten sooner)))
          (λ not_sooner. inr (not_earlier e line.entry not_sooner))
          (cases_Bool (earlier e)))
          (cases_Bool (stands (line ∷ front) e));
      commands = λ k command listed.
          ⊎_elim
          (λ written. inl (written_on input line front h later command k written))
          (λ unwritten.
          let due : Entry = command_line input front command k in
          let same = zero-add k in
          ⊎_elim
          (λ sooner. absurd (false≢true (sym happens.least ∙ due_from_command input front earlier (record {
            index = k;
            command = command;
            listed = listed;
            unwritten = ap (is_written front command) same ∙ unwritten;
            passing = ap (λ i. earlier (command_line input front command i)) same ∙ sooner;
          }))))
          (λ not_sooner. inr (not_earlier due line.entry not_sooner))
          (cases_Bool (earlier due)))
          (cases_Bool (is_written front command k));
      admitted_by = idle_admissions input line front h later idle;
    }

timely_admission : (input : Input) → IsWellFormed input.plant → (line : Line) (front : Front) (t m : ℕ) (note : Note) → IsTimely input front → Admits input front line t m note → IsTimely input (line ∷ front)
timely_admission input fine line front t m note h admits =
    let now = admits.now in
    let later : instant front ≤ line.entry.at = omega (arith, now) in
    let waiting = waiting_parts input front t admits.waiting in
    let told_same : told input.commands (line ∷ front) ≡ told input.commands front = told_kept input.commands line front (λ k is. admit_tells_nothing k (sym admits.what ∙ is)) in
    record {
      past = past_after input line front h later;
      events = λ u e lt event.
          let c : Bool = is_cancelled u (told input.commands front) in
          let Q : List ℕ → Bool → Type 0 = λ adms b. IsEvent input.plant u adms b e in
          let same_c : is_cancelled u (told input.commands (line ∷ front)) ≡ c = ap (is_cancelled u) told_same in
          let old : IsEvent input.plant u (admissions front u) c e → IsOpenOrWritten (line ∷ front) e = λ is.
          ⊎_elim (λ stood. inl (stands_on line front e stood)) (λ to_come. inr (omega (arith, now, to_come))) (h.events u e lt is) in
          ⊎_elim
          (λ same.
          let P : List ℕ → Type 0 = λ adms. IsEvent input.plant u adms (is_cancelled u (told input.commands (line ∷ front))) e in
          let R : Bool → Type 0 = λ b. IsEvent input.plant u (admissions front u ++ line.entry.at ∷ []) b e in
          let S : ℕ → Type 0 = λ v. admissions (line ∷ front) v ≡ admissions front v ++ line.entry.at ∷ [] in
          let T : ℕ → Type 0 = λ v. length (admissions front v) < moves input.plant v in
          let grown = subst S (sym same) (admission_added line front t m note admits.what) in
          let event_added = subst R same_c (subst P grown event) in
          let room = subst T (sym same) waiting.room in
          new_event u e c old (added input.plant fine u (admissions front u) line.entry.at c room e event_added))
          (λ other.
          let P : List ℕ → Type 0 = λ adms. IsEvent input.plant u adms (is_cancelled u (told input.commands (line ∷ front))) e in
          let R : Bool → Type 0 = λ b. IsEvent input.plant u (admissions front u) b e in
          old (subst R same_c (subst P (admission_of_other line front t m note u admits.what other) event)))
          (cases_eq u t);
      commands = idle_commands input line front h later now;
      admitted_by = λ u n ln.
          ⊎_elim
          (λ same.
          let S : ℕ → Type 0 = λ v. admissions (line ∷ front) v ≡ admissions front v ++ line.entry.at ∷ [] in
          let grown = subst S (sym same) (admission_added line front t m note admits.what) in
          let P : List ℕ → Type 0 = λ adms. n < length adms → admitted adms n ≤ line.entry.at in
          subst P (sym grown) (λ lt. admitted_more (admissions front u) n lt (h.admitted_by u n)) ln)
          (λ other.
          let P : List ℕ → Type 0 = λ adms. n < length adms → admitted adms n ≤ line.entry.at in
          subst P (sym (admission_of_other line front t m note u admits.what other)) (λ lt. omega (arith, h.admitted_by u n lt, later)) ln)
          (cases_eq u t);
    }
  where
    admit_tells_nothing : (k : ℕ) → Admit t m note ≡ Told k → ⊥
    admit_tells_nothing k e = cc

    new_event : (u : ℕ) (e : Entry) (c : Bool) → (IsEvent input.plant u (admissions front u) c e → IsOpenOrWritten (line ∷ front) e) → Adds input.plant u (admissions front u) line.entry.at c e → IsOpenOrWritten (line ∷ front) e
    new_event u e c old adds =
        ⊎_elim old (λ new. ⊎_elim (λ after. inr (omega arith)) (λ next. inr next.1) new) adds

    admitted_more : (adms : List ℕ) (n : ℕ) → n < length (adms ++ line.entry.at ∷ []) → (n < length adms → admitted adms n ≤ instant front) → admitted (adms ++ line.entry.at ∷ []) n ≤ line.entry.at
    admitted_more adms n lt below =
        ⊎_elim
        (λ old. omega (arith, (agree_added adms line.entry.at).same n old, below old, admits.now))
        (λ new.
        let last : n ≡ length adms = omega (arith, length_added adms line.entry.at) in
        let P : ℕ → Type 0 = λ k. admitted (adms ++ line.entry.at ∷ []) k ≤ line.entry.at in
        subst P (sym last) (omega (arith, admitted_added adms line.entry.at)))
        (cases_lt n (length adms))

pub timely : (input : Input) → IsWellFormed input.plant → (front : Front) → is_lawful input front ≡ true → IsTimely input front
timely input fine [] lawful = record {
  past = λ e stood. absurd (false≢true stood);
  events = λ t e lt event. inr (omega arith);
  commands = λ k command listed. inr (omega arith);
  admitted_by = λ t m lm. absurd (omega arith);
}
timely input fine (line ∷ front) lawful =
    step (timely input fine front (lawful_before input line front lawful)) (lawful_last input line front lawful)
  where
    step : IsTimely input front → Follows input front line → IsTimely input (line ∷ front)
    step h (by_event happens) = timely_event input line front h happens
    step h (by_admission t m note admits) = timely_admission input fine line front t m note h admits
    step h (by_hold t m why holds) = timely_idle input line front h (ap is_admission holds.what) holds.now
    step h (by_end ends) = timely_idle input line front h (ap is_admission ends.what) ends.now

-- times do not fall
pub times_rise : (input : Input) → IsWellFormed input.plant → (line : Line) (front : Front) → is_lawful input (line ∷ front) ≡ true → instant front ≤ line.entry.at
times_rise input fine line front lawful = step (lawful_last input line front lawful)
  where
    step : Follows input front line → instant front ≤ line.entry.at
    step (by_event happens) = event_later input line front (timely input fine front (lawful_before input line front lawful)) happens
    step (by_admission t m note admits) = omega (arith, admits.now)
    step (by_hold t m why holds) = omega (arith, holds.now)
    step (by_end ends) = omega (arith, ends.now)
