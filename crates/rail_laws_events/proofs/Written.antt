-- What was written goes on being an event line of the admissions, and nothing is written twice.
use Rattle.std.proofs.Common.{◌≡◌, ℕ, suc, ◌+◌, ◌<◌, ◌≤◌, Bool, true, false, cond, List, [], ◌∷◌, ◌++◌, length, refl, sym, ap, ◌∙◌, subst, ◌⊎◌, inl, inr, ⊎_elim, arith}
use Rattle.std.specs.List.{list_any}
use Rattle.std.proofs.lemmas.Bool.{or_parts, cases_Bool, cases_lt, cases_eq, false≢true, or_cases}
use Rattle.rail_base.specs.declared.history.Entry.{Entry}
use Rattle.rail_base.specs.declared.history.What.{What}
use Rattle.rail_base.specs.declared.history.What.TheVariants.{Free, Arrive, Enter, Out, Ready, Told, Untold, Admit, Hold, End}
use Rattle.rail_base.specs.declared.history.Note.{Note}
use Rattle.rail_rules.specs.Plant.{Plant, trains, moves, moves_of, step_section}
use Rattle.rail_rules.specs.Fronts.{Line, Front, at_time, is_admission, admissions, same_entry, stands, places}
use Rattle.rail_rules.specs.Orders.{Input, told, is_cancelled, takes_effect}
use Rattle.rail_rules.specs.Times.{admitted, passes, arrive, stop_at}
use Rattle.rail_rules.specs.Events.{train_events, command_line}
use Rattle.rail_rules.specs.Lawful.{is_lawful}
use Rattle.rail_rules.proofs.CallerLemmas.{admissions_kept, state_parts, freed_from}
use Rattle.rail_rules.specs.Intervals.{is_open, is_taken_over, end_time}
use Rattle.rail_laws_front.specs.Premises.{IsWellFormed}
use Rattle.rail_laws_front.specs.Views.{Happens, Admits, Follows, is_event}
use Rattle.rail_laws_front.specs.Views.Follows.{by_event, by_admission, by_hold, by_end}
use Rattle.rail_laws_front.specs.EventLines.{IsEvent}
use Rattle.rail_laws_front.specs.EventLines.IsEvent.{entering, arriving, freeing, leaving, readying}
use Rattle.rail_laws_front.proofs.CallerLemmas.{gather_found, gather_from, lawful_before, lawful_last, event_found, event_from, agree_added, admitted_added, length_added, ready_agrees, enter_agrees, arrive_agrees, stop_agrees, passes_unadmitted, arrives_stopping, passes_before_stop, end_kept, admission_added, admission_of_other, event_admits_nothing, waiting_parts, due_found, timely, running_event, kept_completes, place_in, places_long, same_entry_refl}
use Rattle.rail_laws_events.specs.Accounts.{is_train_event, all_events}
use Rattle.rail_laws_events.proofs.Coding.{one_entry}

-- no train has more admissions than moves
pub few_admissions : (input : Input) → IsWellFormed input.plant → (front : Front) → is_lawful input front ≡ true → (t : ℕ) → t < trains input.plant → length (admissions front t) ≤ moves input.plant t
few_admissions input fine front lawful t lt =
    let state = state_parts (moves_of input.plant) (places input.plant front) (kept_completes input fine front lawful).valid in
    omega (arith, place_in input.plant front t lt, state.within t (omega (arith, lt, places_long input.plant front)))

-- an event line stays one when the train is admitted again, or is later than that
pub persists : (plant : Plant) → IsWellFormed plant → (t : ℕ) (adms : List ℕ) (a : ℕ) (c : Bool) (e : Entry) → length adms < moves plant t → IsEvent plant t adms c e → IsEvent plant t (adms ++ a ∷ []) c e ⊎ (a < e.at)
persists plant fine t adms a c e room (entering m j lm lj is) =
    inl (entering m j (omega (arith, length_added adms a)) lj (is ∙ ap (λ n. at_time n (Enter t (suc m) (step_section plant t m j))) (sym (enter_agrees plant t (adms ++ a ∷ []) adms (length adms) m j (agree_added adms a) lm))))
persists plant fine t adms a c e room (arriving m lm is) =
    let more : List ℕ = adms ++ a ∷ [] in
    let agree = agree_added adms a in
    ⊎_elim
    (λ inner. inl (arriving m (omega (arith, length_added adms a)) (is ∙ ap (λ n. at_time n (Arrive t (suc m))) (sym (arrive_agrees plant t more adms (length adms) m agree inner)))))
    (λ outer.
    let next : suc m ≡ length adms = omega arith in
    let going : suc m ≡ moves plant t → ⊥ = λ end. omega arith in
    let stopping : arrive plant t adms m ≡ stop_at plant t adms m = arrives_stopping plant t adms m going (passes_unadmitted plant t adms (suc m) (omega arith)) in
    let stop_same : stop_at plant t more m ≡ stop_at plant t adms m = stop_agrees plant t more adms (length adms) m agree lm in
    ⊎_elim
    (λ passing.
    let P : ℕ → Type 0 = λ k. admitted more k ≡ a in
    let adm : admitted more (suc m) ≡ a = subst P (sym next) (admitted_added adms a) in
    let Q : Entry → Type 0 = λ x. a < x.at in
    inr (subst Q (sym is) (omega (arith, stopping, stop_same, adm, passes_before_stop plant t fine more m (omega arith) passing))))
    (λ no_pass.
    inl (arriving m (omega (arith, length_added adms a)) (is ∙ ap (λ n. at_time n (Arrive t (suc m))) (stopping ∙ sym stop_same ∙ sym (arrives_stopping plant t more m going no_pass)))))
    (cases_Bool (passes plant t more (suc m))))
    (cases_lt (suc m) (length adms))
persists plant fine t adms a c e room (freeing m j lm lj freed is) =
    let more : List ℕ = adms ++ a ∷ [] in
    let parts = or_parts (is_open plant t adms m j) (is_taken_over plant t adms m j) freed in
    ⊎_elim
    (λ to_come. let Q : Entry → Type 0 = λ x. a < x.at in inr (subst Q (sym is) to_come))
    (λ past.
    let kept = end_kept plant t fine adms a m j room lm lj parts.0 past in
    inl (freeing m j (omega (arith, length_added adms a)) lj (freed_from plant t more m j kept.closed (kept.taken ∙ parts.1))
    (is ∙ ap (λ n. at_time n (Free (step_section plant t m j) t)) (sym kept.same))))
    (cases_lt a (end_time plant t adms m j))
persists plant fine t adms a c e room (leaving m lm last is) = absurd (omega arith)
persists plant fine t adms a c e room (readying m lm lmoves runs is) =
    inl (readying m (omega (arith, length_added adms a)) lmoves runs (is ∙ ap (λ n. at_time n (Ready t (suc m))) (sym (ready_agrees plant t (adms ++ a ∷ []) adms (length adms) m (agree_added adms a) lm))))

-- an event line of a train of the front
pub record IsEventOf (plant : Plant) (front : Front) (e : Entry) : Type 0 where
  pub train : ℕ
  pub known : train < trains plant
  pub event : IsEvent plant train (admissions front train) false e

pub in_all_events : (plant : Plant) (front : Front) (e : Entry) → IsEventOf plant front e → list_any (same_entry e) (all_events plant front) ≡ true
in_all_events plant front e of =
    gather_from (same_entry e) (λ t. train_events plant t (admissions front t) false) (trains plant) of.train of.known
    (event_from plant of.train (admissions front of.train) false (same_entry e) e of.event (same_entry_refl e))

pub from_all_events : (plant : Plant) (front : Front) (e : Entry) → list_any (same_entry e) (all_events plant front) ≡ true → IsEventOf plant front e
from_all_events plant front e h =
    let found = gather_found (same_entry e) (λ t. train_events plant t (admissions front t) false) (trains plant) h in
    let line = event_found plant found.0 (admissions front found.0) false (same_entry e) found.2 in
    let P : Entry → Type 0 = λ x. IsEvent plant found.0 (admissions front found.0) false x in
    record { train = found.0; known = found.1; event = subst P (sym (one_entry e line.entry line.passing)) line.event }

-- an event line says what an event line of a train says
pub event_is_train : (plant : Plant) (t : ℕ) (adms : List ℕ) (c : Bool) (e : Entry) → IsEvent plant t adms c e → is_train_event e.what ≡ true
event_is_train plant t adms c e (entering m j lm lj is) = ap (λ (x : Entry). is_train_event x.what) is
event_is_train plant t adms c e (arriving m lm is) = ap (λ (x : Entry). is_train_event x.what) is
event_is_train plant t adms c e (freeing m j lm lj closed is) = ap (λ (x : Entry). is_train_event x.what) is
event_is_train plant t adms c e (leaving m lm last is) = ap (λ (x : Entry). is_train_event x.what) is
event_is_train plant t adms c e (readying m lm lmoves runs is) = ap (λ (x : Entry). is_train_event x.what) is

-- the line of a command doesn't
command_is_no_train : (input : Input) (front : Front) (at : ℕ) (b : Bool) (k : ℕ) → is_train_event (cond b (Told (suc k)) (Untold (suc k))) ≡ false
command_is_no_train input front at true k = refl
command_is_no_train input front at false k = refl

-- an event line of a train that happens is one of the admissions, and wasn't written before
pub record IsNew (input : Input) (front : Front) (line : Line) : Type 0 where
  pub of : IsEventOf input.plant front line.entry
  pub unwritten : stands front line.entry ≡ false

pub happens_new : (input : Input) (front : Front) (line : Line) → Happens input front line → is_train_event line.entry.what ≡ true → IsNew input front line
happens_new input front line happens kind =
    ⊎_elim
    (λ due.
    let same : line.entry ≡ due.entry = one_entry line.entry due.entry due.passing in
    let P : Entry → Type 0 = λ x. IsEvent input.plant due.train (admissions front due.train) false x in
    let Q : Entry → Type 0 = λ x. stands front x ≡ false in
    record {
      of = record {
        train = due.train;
        known = due.known;
        event = subst P (sym same) (running_event input.plant due.train (admissions front due.train) (is_cancelled due.train (told input.commands front)) false due.entry (λ _. refl) due.event);
      };
      unwritten = subst Q (sym same) due.unwritten;
    })
    (λ due.
    let line_of : Entry = command_line input front due.command (0 + due.index) in
    let same : line.entry ≡ line_of = one_entry line.entry line_of due.passing in
    absurd (false≢true (sym (command_is_no_train input front due.command.at (takes_effect input front (told input.commands front) due.command.what) (0 + due.index)) ∙ sym (ap (λ (x : Entry). is_train_event x.what) same) ∙ kind)))
    (due_found input front (same_entry line.entry) happens.due)

-- where a line is no admission the event lines stay
events_idle : (plant : Plant) (line : Line) (front : Front) (e : Entry) → is_admission line.entry.what ≡ false → IsEventOf plant front e → IsEventOf plant (line ∷ front) e
events_idle plant line front e idle of =
    let P : List ℕ → Type 0 = λ adms. IsEvent plant of.train adms false e in
    record { train = of.train; known = of.known; event = subst P (sym (admissions_kept line front of.train idle)) of.event }

events_admitted : (input : Input) → IsWellFormed input.plant → (line : Line) (front : Front) (t m : ℕ) (note : Note) → Admits input front line t m note → (e : Entry) → e.at ≤ line.entry.at → IsEventOf input.plant front e → IsEventOf input.plant (line ∷ front) e
events_admitted input fine line front t m note admits e past of =
    let u : ℕ = of.train in
    let P : List ℕ → Type 0 = λ adms. IsEvent input.plant u adms false e in
    ⊎_elim
    (λ same.
    let S : ℕ → Type 0 = λ v. admissions (line ∷ front) v ≡ admissions front v ++ line.entry.at ∷ [] in
    let T : ℕ → Type 0 = λ v. length (admissions front v) < moves input.plant v in
    let grown = subst S (sym same) (admission_added line front t m note admits.what) in
    let room = subst T (sym same) (waiting_parts input front t admits.waiting).room in
    ⊎_elim
    (λ still. record { train = u; known = of.known; event = subst P (sym grown) still })
    (λ later. absurd (omega arith))
    (persists input.plant fine u (admissions front u) line.entry.at false e room of.event))
    (λ other. record { train = u; known = of.known; event = subst P (sym (admission_of_other line front t m note u admits.what other)) of.event })
    (cases_eq u t)

-- what was written is an event line of the admissions
pub written_is_event : (input : Input) → IsWellFormed input.plant → (front : Front) → is_lawful input front ≡ true → (e : Entry) → stands front e ≡ true → is_train_event e.what ≡ true → IsEventOf input.plant front e
written_is_event input fine [] lawful e stood kind = absurd (false≢true stood)
written_is_event input fine (line ∷ front) lawful e stood kind =
    ⊎_elim
    (λ here. new_line (lawful_last input line front lawful) (one_entry e line.entry here))
    (λ before. old_line (lawful_last input line front lawful) before (written_is_event input fine front (lawful_before input line front lawful) e before kind))
    (or_cases (same_entry e line.entry) (stands front e) stood)
  where
    no_train_event : (what : What) → is_event what ≡ false → is_train_event what ≡ true → ⊥
    no_train_event (Admit t m note) a b = false≢true b
    no_train_event (Hold t m why) a b = false≢true b
    no_train_event End a b = false≢true b
    no_train_event (Free x t) a b = false≢true (sym a)
    no_train_event (Arrive t m) a b = false≢true (sym a)
    no_train_event (Enter t m x) a b = false≢true (sym a)
    no_train_event (Out t) a b = false≢true (sym a)
    no_train_event (Ready t m) a b = false≢true (sym a)
    no_train_event (Told k) a b = false≢true b
    no_train_event (Untold k) a b = false≢true b

    line_kind : e ≡ line.entry → is_train_event line.entry.what ≡ true
    line_kind same = sym (ap (λ (x : Entry). is_train_event x.what) same) ∙ kind

    new_line : Follows input front line → e ≡ line.entry → IsEventOf input.plant (line ∷ front) e
    new_line (by_event happens) same =
        let new = happens_new input front line happens (line_kind same) in
        let P : Entry → Type 0 = λ x. IsEventOf input.plant (line ∷ front) x in
        subst P (sym same) (events_idle input.plant line front line.entry (event_admits_nothing line.entry.what happens.event) new.of)
    new_line (by_admission t m note admits) same = absurd (no_train_event line.entry.what (ap is_event admits.what) (line_kind same))
    new_line (by_hold t m why holds) same = absurd (no_train_event line.entry.what (ap is_event holds.what) (line_kind same))
    new_line (by_end ends) same = absurd (no_train_event line.entry.what (ap is_event ends.what) (line_kind same))

    old_line : Follows input front line → stands front e ≡ true → IsEventOf input.plant front e → IsEventOf input.plant (line ∷ front) e
    old_line (by_event happens) before of = events_idle input.plant line front e (event_admits_nothing line.entry.what happens.event) of
    old_line (by_admission t m note admits) before of =
        events_admitted input fine line front t m note admits e (omega (arith, (timely input fine front (lawful_before input line front lawful)).past e before, admits.now)) of
    old_line (by_hold t m why holds) before of = events_idle input.plant line front e (ap is_admission holds.what) of
    old_line (by_end ends) before of = events_idle input.plant line front e (ap is_admission ends.what) of
