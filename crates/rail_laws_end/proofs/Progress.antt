-- Every lawful front that hasn't ended has a next line.
use Rattle.std.proofs.Common.{◌≡◌, ℕ, zero, suc, ◌+◌, ◌<◌, ◌≤◌, Bool, true, false, not, ◌&&◌, ◌||◌, cond, eqb, ltb, List, [], ◌∷◌, length, is_some, Some, refl, sym, ap, ◌∙◌, subst, ⊎_elim, arith, zero-add}
use Rattle.std.specs.List.{list_any}
use Rattle.std.specs.Cmp.Lexicographic.{bytes_decides}
use Rattle.std.proofs.lemmas.Bool.{cases_Bool, false≢true, and_parts, and_from, and_right, or_cases, or_left, or_right, or_parts, eqb-true, eq-eqb, ltb-true, not-true, not_from_false}
use Rattle.rail_base.specs.declared.history.Entry.{Entry}
use Rattle.rail_base.specs.declared.history.What.{What}
use Rattle.rail_base.specs.declared.history.What.TheVariants.{Free, Arrive, Enter, Out, Ready, Told, Untold, Admit, Hold, End}
use Rattle.rail_base.specs.declared.history.Cause.{Cause}
use Rattle.rail_rules.specs.Numbers.{any_below, all_below, comes_before, same_numbers}
use Rattle.rail_rules.specs.Plant.{trains, moves}
use Rattle.rail_rules.specs.Fronts.{Line, Front, at_time, instant, has_ended, has_held, is_hold, is_admission, admissions, rank, code_of, option_code, same_cause, same_entry, stands}
use Rattle.rail_rules.specs.Orders.{Input, told, is_cancelled, takes_effect}
use Rattle.rail_rules.specs.Events.{ready_line, command_line, is_written, due_lines, is_least, is_quiet}
use Rattle.rail_rules.specs.Causes.{place, is_ready, is_deciding, cause, could_go, is_told_so, is_settled}
use Rattle.rail_rules.specs.Lawful.{is_lawful, is_hold_due, remaining, may_happen, may_follow_as, may_follow}
use Rattle.rail_rules.proofs.CallerLemmas.{any_below_found, any_below_at, all_below_from}
use Rattle.rail_laws_front.specs.Premises.{IsWellFormed}
use Rattle.rail_laws_front.specs.EventLines.{IsEvent}
use Rattle.rail_laws_front.specs.EventLines.IsEvent.{entering, arriving, freeing, leaving, readying}
use Rattle.rail_laws_front.specs.Views.{Holds, Follows, is_event}
use Rattle.rail_laws_front.specs.Views.Follows.{by_event, by_admission, by_hold, by_end}
use Rattle.rail_laws_front.proofs.CallerLemmas.{lawful_last, due_found, timely, not_earlier}
use Rattle.rail_laws_front.specs.Invariant.{IsTimely}
use Rattle.rail_laws_events.proofs.CallerLemmas.{one_entry, AreAlike, alike_after, cause_same, place_same}
use Rattle.rail_laws_end.proofs.Reasons.{some_cause}
use Rattle.rail_laws_end.proofs.Least.{HasLeast, has_least}
use Rattle.rail_laws_end.proofs.Starting.{CanAdmit, can_admit, admit_line}

-- a line that may be next
pub record HasNext (input : Input) (front : Front) : Type 0 where
  pub line : Line
  pub may : may_follow_as input front line line.entry.what ≡ true

-- an event line follows as one
as_event : (input : Input) (front : Front) (line : Line) (what : What) → is_event what ≡ true → may_follow_as input front line what ≡ may_happen input front line
as_event input front line (Free x t) h = refl
as_event input front line (Arrive t m) h = refl
as_event input front line (Enter t m x) h = refl
as_event input front line (Out t) h = refl
as_event input front line (Ready t m) h = refl
as_event input front line (Told k) h = refl
as_event input front line (Untold k) h = refl
as_event input front line (Admit t m note) h = absurd (false≢true h)
as_event input front line (Hold t m why) h = absurd (false≢true h)
as_event input front line End h = absurd (false≢true h)

-- a due line is an event line, not before the instant
pub record IsDue (front : Front) (e : Entry) : Type 0 where
  pub event : is_event e.what ≡ true
  pub later : instant front ≤ e.at

event_kind : (input : Input) (front : Front) (t : ℕ) (e : Entry) → IsEvent input.plant t (admissions front t) (is_cancelled t (told input.commands front)) e → is_event e.what ≡ true
event_kind input front t e (entering m j lm lj is) = ap (λ (x : Entry). is_event x.what) is
event_kind input front t e (arriving m lm is) = ap (λ (x : Entry). is_event x.what) is
event_kind input front t e (freeing m j lm lj closed is) = ap (λ (x : Entry). is_event x.what) is
event_kind input front t e (leaving m lm last is) = ap (λ (x : Entry). is_event x.what) is
event_kind input front t e (readying m lm lmoves runs is) = ap (λ (x : Entry). is_event x.what) is

command_kind : (b : Bool) (k : ℕ) → is_event (cond b (Told k) (Untold k)) ≡ true
command_kind true k = refl
command_kind false k = refl

is_due : (input : Input) (front : Front) → IsTimely input front → (e : Entry) → list_any (same_entry e) (due_lines input front) ≡ true → IsDue front e
is_due input front h e found =
    ⊎_elim
    (λ due.
    let same = one_entry e due.entry due.passing in
    let P : Entry → Type 0 = λ x. IsDue front x in
    subst P (sym same) (record {
      event = event_kind input front due.train due.entry due.event;
      later = ⊎_elim (λ stood. absurd (false≢true (sym due.unwritten ∙ stood))) (λ to_come. to_come) (h.events due.train due.entry due.known due.event);
    }))
    (λ due.
    let same = one_entry e (command_line input front due.command (0 + due.index)) due.passing in
    let P : Entry → Type 0 = λ x. IsDue front x in
    let unwritten = sym (ap (is_written front due.command) (zero-add due.index)) ∙ due.unwritten in
    subst P (sym same) (record {
      event = command_kind (takes_effect input front (told input.commands front) due.command.what) (suc (0 + due.index));
      later = ⊎_elim (λ written. absurd (false≢true (sym unwritten ∙ written))) (λ to_come. to_come) (h.commands due.index due.command due.listed);
    }))
    (due_found input front (same_entry e) found)

-- the least due line follows, at the instant or where everything is settled
next_event : (input : Input) (front : Front) → IsTimely input front → (least : HasLeast (due_lines input front)) → (eqb least.entry.at (instant front) || is_settled input front) ≡ true → HasNext input front
next_event input front h least when =
    let line : Line = record { entry = least.entry; trains = [] } in
    let due = is_due input front h least.entry least.listed in
    let is_least_one : is_least (due_lines input front) least.entry ≡ true =
    and_from (list_any (same_entry least.entry) (due_lines input front)) (not (list_any (λ d. comes_before (rank d) (rank least.entry)) (due_lines input front))) least.listed (not_from_false (list_any (λ d. comes_before (rank d) (rank least.entry)) (due_lines input front)) least.least) in
    record {
      line = line;
      may = as_event input front line least.entry.what due.event
          ∙ and_from (is_least (due_lines input front) least.entry) (eqb least.entry.at (instant front) || is_settled input front) is_least_one when;
    }

-- nothing due, or a least line that is
pub data HasDue (due : List Entry) : Type 0 where
  nothing_due : length due ≡ 0 → HasDue due
  least_due : HasLeast due → HasDue due

has_due : (due : List Entry) → HasDue due
has_due [] = nothing_due refl
has_due (d ∷ ds) = least_due (has_least d ds)

-- the end line follows where nothing is due and everything is settled
next_end : (input : Input) (front : Front) → is_settled input front ≡ true → length (due_lines input front) ≡ 0 → HasNext input front
next_end input front settled none = record {
  line = record { entry = at_time (instant front) End; trains = remaining input front };
  may =
      let now : Bool = eqb (instant front) (instant front) in
      and_from (now && is_settled input front && eqb (length (due_lines input front)) 0) (same_numbers (remaining input front) (remaining input front))
      (and_from (now && is_settled input front) (eqb (length (due_lines input front)) 0)
      (and_from now (is_settled input front) (eq-eqb (instant front) (instant front) refl) settled)
      (eq-eqb (length (due_lines input front)) 0 none))
      ((bytes_decides (remaining input front) (remaining input front)).1 refl);
}

-- where everything is settled, the least due line or the end line follows
next_settled : (input : Input) (front : Front) → IsTimely input front → is_settled input front ≡ true → HasNext input front
next_settled input front h settled = at_due (has_due (due_lines input front))
  where
    at_due : HasDue (due_lines input front) → HasNext input front
    at_due (nothing_due none) = next_end input front settled none
    at_due (least_due least) = next_event input front h least (or_right (eqb least.entry.at (instant front)) (is_settled input front) settled)

-- the first number below a bound that passes
pub record IsFirst (f : ℕ → Bool) (n : ℕ) : Type 0 where
  pub number : ℕ
  pub below : number < n
  pub passes : f number ≡ true
  pub none_before : (i : ℕ) → i < number → f i ≡ false

first_such : (f : ℕ → Bool) (n : ℕ) → any_below f n ≡ true → IsFirst f n
first_such f zero h = absurd (false≢true h)
first_such f (suc n) h =
    let earlier : any_below f n ≡ true → IsFirst f n = first_such f n in
    ⊎_elim
    (λ before. let first = earlier before in record { number = first.number; below = omega (arith, first.below); passes = first.passes; none_before = first.none_before })
    (λ none.
    ⊎_elim
    (λ is. absurd (false≢true (sym none ∙ is)))
    (λ here. record { number = n; below = omega arith; passes = here; none_before = λ i lt. any_below_at f n i none lt })
    (or_cases (any_below f n) (f n) h))
    (cases_Bool (any_below f n))

-- an event is no hold line
pub event_no_hold : (what : What) → is_event what ≡ true → is_hold what ≡ false
event_no_hold (Free x t) h = refl
event_no_hold (Arrive t m) h = refl
event_no_hold (Enter t m x) h = refl
event_no_hold (Out t) h = refl
event_no_hold (Ready t m) h = refl
event_no_hold (Told k) h = refl
event_no_hold (Untold k) h = refl
event_no_hold (Admit t m note) h = absurd (false≢true h)
event_no_hold (Hold t m why) h = absurd (false≢true h)
event_no_hold End h = absurd (false≢true h)

-- a hold line leaves the ready lines and the causes, so nobody could go after it either
nobody_after_hold : (input : Input) (line : Line) (front : Front) (u m : ℕ) (why : Cause) → Holds input front line u m why → (t : ℕ) → could_go input (line ∷ front) t ≡ false
nobody_after_hold input line front u m why holds t =
    let alike : AreAlike input (line ∷ front) front = alike_after input line front (ap is_admission holds.what) (λ k is. clash k (sym holds.what ∙ is)) holds.now in
    let place_is = place_same input (line ∷ front) front alike t in
    let cause_is = cause_same input (line ∷ front) front alike t in
    let adms_is = alike.admitted t in
    let later : Entry = ready_line input.plant t (admissions (line ∷ front) t) (place (line ∷ front) t) in
    let earlier : Entry = ready_line input.plant t (admissions front t) (place front t) in
    let line_is : later ≡ earlier = λ i. ready_line input.plant t (adms_is i) (place_is i) in
    let no_match : same_entry earlier line.entry ≡ false = ap (λ what. eqb earlier.at line.entry.at && same_numbers (code_of earlier.what) (code_of what)) holds.what ∙ and_right (eqb earlier.at line.entry.at) false refl in
    let stands_is : stands (line ∷ front) later ≡ stands front earlier = ap (stands (line ∷ front)) line_is ∙ ap (λ b. b || stands front earlier) no_match in
    let ready_is : is_ready input (line ∷ front) t ≡ is_ready input front t = λ i. ltb (place_is i) (moves input.plant t) && not (is_cancelled t (alike.orders i)) && stands_is i in
    let go_is : could_go input (line ∷ front) t ≡ could_go input front t = λ i. ready_is i && not (is_some (cause_is i)) in
    go_is ∙ holds.nobody t
  where
    clash : (k : ℕ) → Hold u m why ≡ Told k → ⊥
    clash k e = cc

held_nobody : (input : Input) (front : Front) → is_lawful input front ≡ true → has_held front ≡ true → (t : ℕ) → could_go input front t ≡ false
held_nobody input [] lawful held t = absurd (false≢true held)
held_nobody input (line ∷ front) lawful held t = at_last (lawful_last input line front lawful)
  where
    at_last : Follows input front line → could_go input (line ∷ front) t ≡ false
    at_last (by_event happens) = absurd (false≢true (sym (event_no_hold line.entry.what happens.event) ∙ held))
    at_last (by_admission u m note admits) = absurd (false≢true (sym (ap is_hold admits.what) ∙ held))
    at_last (by_hold u m why holds) = nobody_after_hold input line front u m why holds t
    at_last (by_end ends) = absurd (false≢true (sym (ap is_hold ends.what) ∙ held))

-- a train that could go is admitted
next_admission : (input : Input) → IsWellFormed input.plant → (front : Front) → is_lawful input front ≡ true → is_deciding input front ≡ true → (t : ℕ) → t < trains input.plant → could_go input front t ≡ true → HasNext input front
unfolding admit_line
next_admission input fine front lawful deciding t known goes =
    let both = and_parts (is_ready input front t) (not (is_some (cause input front t))) goes in
    let ready = and_parts (ltb (place front t) (moves input.plant t) && not (is_cancelled t (told input.commands front))) (stands front (ready_line input.plant t (admissions front t) (place front t))) both.0 in
    let room : place front t < moves input.plant t = ltb-true (place front t) (moves input.plant t) (and_parts (ltb (place front t) (moves input.plant t)) (not (is_cancelled t (told input.commands front))) ready.0).0 in
    let no_hold : has_held front ≡ false =
    ⊎_elim (λ held. absurd (false≢true (sym (held_nobody input front lawful held t) ∙ goes))) (λ none. none) (cases_Bool (has_held front)) in
    let can : CanAdmit input front t = can_admit input fine front lawful t known room (and_from (is_deciding input front) (is_ready input front t) deciding both.0) no_hold (not-true (is_some (cause input front t)) both.1) in
    record { line = admit_line input front t can.note can.list; may = can.may }

-- a ready train that can't go has a cause
has_cause : (input : Input) (front : Front) (t : ℕ) → is_ready input front t ≡ true → could_go input front t ≡ false → is_some (cause input front t) ≡ true
has_cause input front t ready stays =
    ⊎_elim
    (λ is. is)
    (λ none. absurd (false≢true (sym stays ∙ and_from (is_ready input front t) (not (is_some (cause input front t))) ready (not_from_false (is_some (cause input front t)) none))))
    (cases_Bool (is_some (cause input front t)))

-- where nobody could go, the first due hold line follows
next_hold : (input : Input) (front : Front) → is_deciding input front ≡ true → any_below (could_go input front) (trains input.plant) ≡ false → IsFirst (is_hold_due input front) (trains input.plant) → HasNext input front
next_hold input front deciding nobody first =
    let t : ℕ = first.number in
    let due = and_parts (is_ready input front t) (not (is_told_so input front t)) first.passes in
    let why = some_cause (cause input front t) (has_cause input front t due.0 (any_below_at (could_go input front) (trains input.plant) t nobody first.below)) in
    let line : Line = record { entry = at_time (instant front) (Hold t (suc (place front t)) why.0); trains = [] } in
    let now : Bool = eqb (instant front) (instant front) in
    let none_goes : Bool = all_below (λ u. not (could_go input front u)) (trains input.plant) in
    let none_earlier : Bool = all_below (λ u. not (is_hold_due input front u)) t in
    let next : Bool = eqb (suc (place front t)) (suc (place front t)) in
    let one = and_from now (is_deciding input front) (eq-eqb (instant front) (instant front) refl) deciding in
    let two = and_from (now && is_deciding input front) none_goes one (all_below_from (λ u. not (could_go input front u)) (trains input.plant) (λ u lt. not_from_false (could_go input front u) (any_below_at (could_go input front) (trains input.plant) u nobody lt))) in
    let three = and_from (now && is_deciding input front && none_goes) (is_hold_due input front t) two first.passes in
    let four = and_from (now && is_deciding input front && none_goes && is_hold_due input front t) none_earlier three (all_below_from (λ u. not (is_hold_due input front u)) t (λ u lt. not_from_false (is_hold_due input front u) (first.none_before u lt))) in
    let five = and_from (now && is_deciding input front && none_goes && is_hold_due input front t && none_earlier) next four (eq-eqb (suc (place front t)) (suc (place front t)) refl) in
    record {
      line = line;
      may = and_from (now && is_deciding input front && none_goes && is_hold_due input front t && none_earlier && next) (same_cause (Some why.0) (cause input front t)) five
          (ap (same_cause (Some why.0)) why.1 ∙ (bytes_decides (option_code (Some why.0)) (option_code (Some why.0))).1 refl);
    }

-- where nobody could go and no hold line is due, everything is settled
settled_from : (input : Input) (front : Front) → is_deciding input front ≡ true → any_below (could_go input front) (trains input.plant) ≡ false → any_below (is_hold_due input front) (trains input.plant) ≡ false → is_settled input front ≡ true
settled_from input [] deciding nobody told_all = refl
settled_from input (line ∷ before) deciding nobody told_all =
    let front : Front = line ∷ before in
    let test : ℕ → Bool = λ t. not (is_ready input front t) || (is_some (cause input front t) && is_told_so input front t) in
    and_from (is_deciding input front) (all_below test (trains input.plant)) deciding
    (all_below_from test (trains input.plant) (λ t lt.
    ⊎_elim
    (λ ready.
    let told_it : is_told_so input front t ≡ true =
    ⊎_elim
    (λ is. is)
    (λ none. absurd (false≢true (sym (any_below_at (is_hold_due input front) (trains input.plant) t told_all lt) ∙ and_from (is_ready input front t) (not (is_told_so input front t)) ready (not_from_false (is_told_so input front t) none))))
    (cases_Bool (is_told_so input front t)) in
    or_right (not (is_ready input front t)) (is_some (cause input front t) && is_told_so input front t)
    (and_from (is_some (cause input front t)) (is_told_so input front t) (has_cause input front t ready (any_below_at (could_go input front) (trains input.plant) t nobody lt)) told_it))
    (λ idle. or_left (not (is_ready input front t)) (is_some (cause input front t) && is_told_so input front t) (not_from_false (is_ready input front t) idle))
    (cases_Bool (is_ready input front t))))

next_deciding : (input : Input) → IsWellFormed input.plant → (front : Front) → is_lawful input front ≡ true → is_deciding input front ≡ true → HasNext input front
next_deciding input fine front lawful deciding =
    ⊎_elim
    (λ some. let go = any_below_found (could_go input front) (trains input.plant) some in next_admission input fine front lawful deciding go.0 go.1 go.2)
    (λ nobody.
    ⊎_elim
    (λ some. next_hold input front deciding nobody (first_such (is_hold_due input front) (trains input.plant) some))
    (λ told_all. next_settled input front (timely input fine front lawful) (settled_from input front deciding nobody told_all))
    (cases_Bool (any_below (is_hold_due input front) (trains input.plant))))
    (cases_Bool (any_below (could_go input front) (trains input.plant)))

-- a line due at the instant is no later than the least one
due_now : (due : List Entry) (now : ℕ) (e : Entry) → list_any (λ (d : Entry). eqb d.at now) due ≡ true → list_any (λ d. comes_before (rank d) (rank e)) due ≡ false → e.at ≤ now
due_now [] now e some least = absurd (false≢true some)
due_now (d ∷ ds) now e some least =
    let rest : list_any (λ (x : Entry). eqb x.at now) ds ≡ true → list_any (λ x. comes_before (rank x) (rank e)) ds ≡ false → e.at ≤ now = due_now ds now e in
    let both = or_parts (comes_before (rank d) (rank e)) (list_any (λ x. comes_before (rank x) (rank e)) ds) least in
    ⊎_elim
    (λ here. omega (arith, not_earlier d e both.0, eqb-true d.at now here))
    (λ later. rest later both.1)
    (or_cases (eqb d.at now) (list_any (λ (x : Entry). eqb x.at now) ds) some)

next_now : (input : Input) (front : Front) → IsTimely input front → list_any (λ (d : Entry). eqb d.at (instant front)) (due_lines input front) ≡ true → HasNext input front
next_now input front h some = at_due (has_due (due_lines input front))
  where
    empty : (due : List Entry) → length due ≡ 0 → list_any (λ (d : Entry). eqb d.at (instant front)) due ≡ true → ⊥
    empty [] none is = false≢true is
    empty (d ∷ ds) none is = omega (arith, none)

    at_due : HasDue (due_lines input front) → HasNext input front
    at_due (nothing_due none) = absurd (empty (due_lines input front) none some)
    at_due (least_due least) =
        let due = is_due input front h least.entry least.listed in
        let time : least.entry.at ≡ instant front = omega (arith, due.later, due_now (due_lines input front) (instant front) least.entry some least.least) in
        next_event input front h least (or_left (eqb least.entry.at (instant front)) (is_settled input front) (eq-eqb least.entry.at (instant front) time))

-- a front that hasn't ended has a next line
pub has_next : (input : Input) → IsWellFormed input.plant → (front : Front) → is_lawful input front ≡ true → has_ended front ≡ false → (line : Line) × (may_follow input front line ≡ true)
has_next input fine front lawful goes_on =
    let next : HasNext input front = at_front front lawful goes_on in
    (next.line, and_from (not (has_ended front)) (may_follow_as input front next.line next.line.entry.what) (not_from_false (has_ended front) goes_on) next.may)
  where
    at_front : (front : Front) → is_lawful input front ≡ true → has_ended front ≡ false → HasNext input front
    at_front [] lawful goes_on = next_settled input [] (timely input fine [] lawful) refl
    at_front (line ∷ before) lawful goes_on =
        ⊎_elim
        (λ now. next_now input (line ∷ before) (timely input fine (line ∷ before) lawful) now)
        (λ quiet. next_deciding input fine (line ∷ before) lawful
        (and_from (not (has_ended (line ∷ before))) (is_quiet (due_lines input (line ∷ before)) line.entry.at) (not_from_false (has_ended (line ∷ before)) goes_on) (not_from_false (list_any (λ (d : Entry). eqb d.at line.entry.at) (due_lines input (line ∷ before))) quiet)))
        (cases_Bool (list_any (λ (d : Entry). eqb d.at (instant (line ∷ before))) (due_lines input (line ∷ before))))
